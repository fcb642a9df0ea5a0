use Rattle.wac_resolution_expressions.proofs.Common.{◌∙◌, ap, append-nil, look_up, ident_of, argument_of, spread_places, composed}
use Rattle.wac_ast_statements.specs.declared.expr.InstantiationArgument.{InstantiationArgument}
use Rattle.wac_resolution_expressions.proofs.SpreadPlaces.{place_of}
use Rattle.wac_resolution_expressions.proofs.places.if_spread.Goals as goal

pub returns-in-Spread : goal.returns-in-Spread
returns-in-Spread c numbering =
    ap (λ (a : InstantiationArgument). look_up c.args.name.now (place_of (composed numbering c.args.state.now.graph c.args.root.now) c.args.name.now (argument_of a))) c.in-Spread.is
    ∙ ap (look_up c.args.name.now) (append-nil (spread_places (composed numbering c.args.state.now.graph c.args.root.now) (ident_of c.in-Spread.id)))
    ∙ c.spread_place.ensures numbering
