use Rattle.wac_resolution_expressions.proofs.Common.{◌∙◌, map, arguments_from, argument_of, own_places, composed}
use Rattle.wac_resolution_expressions.specs.Spreads.{imports_at}
use Rattle.wac_resolution_expressions.proofs.SpreadPlaces.{places, after_none, first_found}
use Rattle.wac_resolution_expressions.proofs.places.place.Goals as goal

pub returns-in-Some : goal.returns-in-Some
returns-in-Some c numbering =
    first_found c.args.name.now (own_places (composed numbering c.args.state.now.graph c.args.root.now) (imports_at numbering c.args.state.now.graph c.args.world) (arguments_from (map argument_of c.args.arguments.now)))
    (places (composed numbering c.args.state.now.graph c.args.root.now) c.args.name.now (map argument_of c.args.arguments.now)) c.in-Some.span (c.in-Some.ensures numbering)

pub returns-in-None : goal.returns-in-None
returns-in-None c numbering =
    after_none c.args.name.now (own_places (composed numbering c.args.state.now.graph c.args.root.now) (imports_at numbering c.args.state.now.graph c.args.world) (arguments_from (map argument_of c.args.arguments.now)))
    (places (composed numbering c.args.state.now.graph c.args.root.now) c.args.name.now (map argument_of c.args.arguments.now)) (c.in-None.ensures numbering)
    ∙ c.spread_places.ensures numbering
