use Rattle.wac_resolution_expressions.proofs.Common.{sym, ident_of, numbers_of, composed, node_is, number_fresh}
use Rattle.wac_resolution_expressions.proofs.SpreadPlaces.{spread_at, spread_nowhere}
use Rattle.wac_resolution_expressions.proofs.places.spread_place.Goals as goal

pub if_exported-requires : goal.if_exported-requires
if_exported-requires c = (node_is c.args.root.now (ident_of c.args.id.now) c.in-Some.node (sym c.in-Some.ensures)).there c.args.state.now.graph c.requires

pub returns-in-Some : goal.returns-in-Some
returns-in-Some c numbering =
    spread_at (composed numbering c.args.state.now.graph c.args.root.now) (ident_of c.args.id.now) c.args.name.now c.in-Some.node.0 c.if_exported.result
    (node_is c.args.root.now (ident_of c.args.id.now) c.in-Some.node (sym c.in-Some.ensures)).is (c.if_exported.ensures numbering (numbers_of c.args.root.now.nodes))

pub returns-in-None : goal.returns-in-None
returns-in-None c numbering = spread_nowhere (composed numbering c.args.state.now.graph c.args.root.now) (ident_of c.args.id.now) c.args.name.now (number_fresh c.args.root.now c.args.id.now.string.now (sym c.in-None.ensures))
