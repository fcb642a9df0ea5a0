use Rattle.wac_lexer.proofs.Common.{sym, ◌∙◌, [], ◌∷◌}
use Rattle.wac_lexer.specs.Words.{brackets, separators}
use Rattle.wac_lexer.proofs.Texts.{find_first, find_next}
use Rattle.wac_lexer.proofs.symbols.of_one.Goals as goal

pub returns-in-Some : goal.returns-in-Some
returns-in-Some c = sym (find_first brackets separators (c.args.byte ∷ []) c.in-Some.token (sym c.bracket.ensures ∙ c.in-Some.is))

pub returns-in-None : goal.returns-in-None
returns-in-None c = c.separator.ensures ∙ sym (find_next brackets separators (c.args.byte ∷ []) (sym c.bracket.ensures ∙ c.in-None.is))
