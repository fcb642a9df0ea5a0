use Rattle.wac_ast_grammar.proofs.Common.{refl, ◌++◌, ◌∷◌}
use Rattle.wac_ast_grammar.proofs.Refused.{stays}
use Rattle.wac_ast_grammar.proofs.laws.trees_end_where_they_must.Goals as goal

pub returns : goal.returns
returns c = λ s front rest x tree h v. stays s (front ++ (x ∷ rest)) front rest tree x h refl v
