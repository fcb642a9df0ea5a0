use Rattle.wac_resolution_expressions.proofs.SpreadPlaces.{exported_here, not_exported_here, exports_nothing}
use Rattle.wac_resolution_expressions.proofs.places.if_exported.Goals as goal

pub returns-in-Some : goal.returns-in-Some
returns-in-Some c =
    exported_here c.args.state.now.graph c.args.node.0 c.in-Instance.field-0 c.args.name.now c.args.span c.in-Instance.ensures.kind c.in-Instance.ensures.named c.types-types.ensures.means c.in-Some.field-0 c.in-Some.ensures.kind

pub returns-in-None : goal.returns-in-None
returns-in-None c =
    not_exported_here c.args.state.now.graph c.args.node.0 c.in-Instance.field-0 c.args.name.now c.args.span c.in-Instance.ensures.kind c.in-Instance.ensures.named c.types-types.ensures.means c.in-None.ensures.kind

pub returns-in_default : goal.returns-in_default
returns-in_default c = exports_nothing c.args.state.now.graph c.args.node.0 c.kind.result c.args.name.now c.args.span c.kind.ensures.kind c.in_default.not-Instance
