use Rattle.wac_resolution_expressions.proofs.Common.{◌≡◌, None, List, map, subst, arith, take_all, length-map, arguments_from, look_up, argument_of, own_places, composed}
use Rattle.wac_ast_grammar.specs.Tree.{InstantiationArgument}
use Rattle.wac_resolution_expressions.specs.Spreads.{imports_at}
use Rattle.wac_resolution_expressions.proofs.OwnPlaces.{open_next, found_here}
use Rattle.wac_resolution_expressions.proofs.named_place.own_places.Goals as goal

pub returns-in-Some : goal.returns-in-Some
returns-in-Some c numbering =
    found_here (composed numbering c.args.state.now.graph c.args.root.now) (imports_at numbering c.args.state.now.graph c.args.world) c.args.name.now c.args.arguments.now c.loop-argument.argument-index c.argument-item.result c.loop-argument-test.true c.argument-item.is c.in-Some.span
    (c.loop-argument.invariant numbering) (c.in-Some.ensures numbering)

pub loop-argument-preserved : goal.loop-argument-preserved
loop-argument-preserved c numbering =
    open_next (composed numbering c.args.state.now.graph c.args.root.now) (imports_at numbering c.args.state.now.graph c.args.world) c.args.name.now c.args.arguments.now c.loop-argument.argument-index c.argument-item.result c.loop-argument-test.true c.argument-item.is
    (c.loop-argument.invariant numbering) (c.in-None.ensures numbering)

pub returns : goal.returns
returns c numbering =
    subst (λ (l : List InstantiationArgument). look_up c.args.name.now (own_places (composed numbering c.args.state.now.graph c.args.root.now) (imports_at numbering c.args.state.now.graph c.args.world) (arguments_from l)) ≡ None)
    (take_all c.loop-argument.argument-index (map argument_of c.args.arguments.now) (omega (arith, length-map c.args.arguments.now argument_of))) (c.loop-argument.invariant numbering)
