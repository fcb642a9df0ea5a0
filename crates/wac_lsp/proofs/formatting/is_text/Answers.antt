use Rattle.std.proofs.Common.{sym, ◌∙◌}
use Rattle.wac_lexer.proofs.Texts.{bytes_eq_is}
use Rattle.wac_lsp.proofs.formatting.is_text.Goals as goal

pub returns : goal.returns
returns c = λ yes. bytes_eq_is c.args.first.now c.args.second.now (sym c.eq.ensures ∙ yes)
