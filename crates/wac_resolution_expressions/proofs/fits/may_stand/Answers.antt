use Rattle.wac_resolution_expressions.proofs.Fitting.{rules_say}
use Rattle.wac_resolution_expressions.proofs.fits.may_stand.Goals as goal

pub returns : goal.returns
returns g c =
    rules_say (g.R.Rules.passes c.args.rules.now) c.args.state.now.graph c.types-types.result.now c.args.node.0 c.kind-kind.result c.args.wanted c.subtype.result c.types-types.ensures.apart c.types-types.ensures.types c.kind-kind.ensures.kind c.subtype.ensures
