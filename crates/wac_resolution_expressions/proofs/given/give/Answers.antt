use Rattle.wac_resolution_expressions.proofs.Common.{◌∙◌, sym, rules, inr, by_name}
use Rattle.wac_resolution_expressions.proofs.GivingNodes.{given_already}
use Rattle.wac_resolution_expressions.proofs.given.give.Goals as goal

pub returns-then-is_some-clause-err : goal.returns-then-is_some-clause-err
returns-then-is_some-clause-err c =
    inr (given_already (by_name c.args.given.now.entries) c.args.name.now c.args.span _ c.find.result c.find.ensures (sym c.is_some.ensures ∙ c.if-is_some.true) (search rules))
