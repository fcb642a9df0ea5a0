use Rattle.wac_ast_base.proofs.Common.{Ok, ap, ◌∙◌}
use Rattle.std.proofs.Common.{sym}
use Rattle.wac_ast_base.proofs.Taken.{same_token}
use Rattle.wac_ast_base.proofs.parse.test_token.Goals as goal

pub returns-then-eq-clause-ok : goal.returns-then-eq-clause-ok
returns-then-eq-clause-ok c = c.in-Ok.is ∙ ap Ok (same_token c.in-Ok.found c.args.expected (sym c.eq.ensures ∙ c.if-eq.true))
