use Rattle.wac_resolution_statements.proofs.Compared.{compared}
use Rattle.wac_resolution_statements.proofs.target.passes.Goals as goal

pub returns : goal.returns
returns g c =
    compared c.args.state.now.graph (g.R.Rules.passes c.args.rules.now) c.types-types.result.now c.subtype.result c.args.a c.args.b c.types-types.ensures.types c.types-types.ensures.apart c.subtype.ensures
