use Rattle.std.proofs.Common.{sym, ◌∙◌}
use Rattle.wac_lexer.proofs.Texts.{bytes_eq_is}
use Rattle.wac_comments.proofs.testing.is_same.Goals as goal

pub returns-then-eq-clause-same : goal.returns-then-eq-clause-same
returns-then-eq-clause-same c = λ yes. bytes_eq_is c.args.text.now c.args.source.now (sym c.eq.ensures ∙ c.if-eq.true)
