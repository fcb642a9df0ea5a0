use Rattle.wac_ast_grammar.proofs.Common.{◌≡◌, refl, false}
use Rattle.wac_ast_grammar.specs.Grammar.{Sym, argument}
use Rattle.wac_ast_grammar.proofs.Tables.{needs_more}
use Rattle.wac_ast_grammar.proofs.Refused.{stopped}
use Rattle.wac_ast_grammar.proofs.laws.refusals_lie_at_first_faults.Goals as goal

whole : (s : Sym) → (s ≡ argument → ⊥) → needs_more s ≡ false
whole argument h = absurd (h refl)
whole _ h = refl

pub returns : goal.returns
returns c = λ s items stop h e. stopped s (whole s h) items stop e
