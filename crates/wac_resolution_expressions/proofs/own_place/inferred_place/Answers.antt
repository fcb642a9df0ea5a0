use Rattle.wac_resolution_expressions.proofs.Common.{sym, ident_of, numbers_of, composed, node_is, number_fresh}
use Rattle.wac_resolution_expressions.specs.Spreads.{imports_at}
use Rattle.wac_resolution_expressions.proofs.ArgumentPlaces.{inferred_at, inferred_nowhere_at}
use Rattle.wac_resolution_expressions.proofs.own_place.inferred_place.Goals as goal

pub inferred_import-name-requires-clause-there : goal.inferred_import-name-requires-clause-there
inferred_import-name-requires-clause-there c = (node_is c.args.root.now (ident_of c.args.id.now) c.in-Some.node (sym c.in-Some.ensures)).there c.args.state.now.graph c.requires.agrees

pub returns-in-Some : goal.returns-in-Some
returns-in-Some c numbering =
    inferred_at (composed numbering c.args.state.now.graph c.args.root.now) (imports_at numbering c.args.state.now.graph c.args.world) (ident_of c.args.id.now) c.in-Some.node.0 c.inferred_import-name.result.now
    (node_is c.args.root.now (ident_of c.args.id.now) c.in-Some.node (sym c.in-Some.ensures)).is (c.inferred_import-name.ensures numbering (numbers_of c.args.root.now.nodes))

pub returns-in-None : goal.returns-in-None
returns-in-None c numbering =
    inferred_nowhere_at (composed numbering c.args.state.now.graph c.args.root.now) (imports_at numbering c.args.state.now.graph c.args.world) (ident_of c.args.id.now) (number_fresh c.args.root.now c.args.id.now.string.now (sym c.in-None.ensures))
