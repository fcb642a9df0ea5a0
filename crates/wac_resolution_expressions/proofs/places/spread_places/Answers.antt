use Rattle.wac_resolution_expressions.proofs.Common.{◌≡◌, None, List, map, subst, arith, take_all, length-map, look_up, argument_of, composed}
use Rattle.wac_ast_grammar.specs.Tree.{InstantiationArgument}
use Rattle.wac_resolution_expressions.proofs.SpreadPlaces.{places, open_next, found_here}
use Rattle.wac_resolution_expressions.proofs.places.spread_places.Goals as goal

pub returns-in-Some : goal.returns-in-Some
returns-in-Some c numbering =
    found_here (composed numbering c.args.state.now.graph c.args.root.now) c.args.name.now c.args.arguments.now c.loop-argument.argument-index c.argument-item.result c.loop-argument-test.true c.argument-item.is c.in-Some.span (c.loop-argument.invariant numbering) (c.in-Some.ensures numbering)

pub loop-argument-preserved : goal.loop-argument-preserved
loop-argument-preserved c numbering =
    open_next (composed numbering c.args.state.now.graph c.args.root.now) c.args.name.now c.args.arguments.now c.loop-argument.argument-index c.argument-item.result c.loop-argument-test.true c.argument-item.is (c.loop-argument.invariant numbering) (c.in-None.ensures numbering)

pub returns : goal.returns
returns c numbering =
    subst (λ (l : List InstantiationArgument). look_up c.args.name.now (places (composed numbering c.args.state.now.graph c.args.root.now) c.args.name.now l) ≡ None)
    (take_all c.loop-argument.argument-index (map argument_of c.args.arguments.now) (omega (arith, length-map c.args.arguments.now argument_of))) (c.loop-argument.invariant numbering)
