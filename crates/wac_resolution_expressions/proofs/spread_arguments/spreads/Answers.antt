use Rattle.wac_resolution_expressions.proofs.Common.{refl, map, subst, arith, List, err_from_is_err_and, take_all, length-map, arguments_from, by_name, argument_of, error_model, spreads_of, numbers_of, reports, agrees_nodes}
use Rattle.wac_ast_grammar.specs.Tree.{InstantiationArgument}
use Rattle.wac_resolution_expressions.proofs.SpreadSteps.{SpreadsGave, gave_none, world_kept, spreads_next, spreads_break}
use Rattle.wac_resolution_expressions.proofs.spread_arguments.spreads.Goals as goal

pub loop-argument-init : goal.loop-argument-init
loop-argument-init c = gave_none c.args.state.now.graph c.args.world (numbers_of c.args.root.now.nodes) (by_name c.args.given.now.entries) _ c.requires.agrees.nodes c.requires.there refl

pub spread_argument-requires-clause-agrees : goal.spread_argument-requires-clause-agrees
spread_argument-requires-clause-agrees c = agrees_nodes c.args.state.now.graph c.loop-argument.state.graph c.args.root.now c.loop-argument.invariant.grows c.requires.agrees

pub spread_argument-requires-clause-there : goal.spread_argument-requires-clause-there
spread_argument-requires-clause-there c = c.loop-argument.invariant.there

pub spread_argument-requires-clause-world : goal.spread_argument-requires-clause-world
spread_argument-requires-clause-world c = world_kept c.args.state.now.graph c.loop-argument.state.graph c.args.world c.loop-argument.invariant.grows c.requires.world

pub returns-in_err-spread_argument-clause-err : goal.returns-in_err-spread_argument-clause-err
returns-in_err-spread_argument-clause-err c =
    let p = err_from_is_err_and c.from_residual.result c.from_residual.ensures.1 in
    rw (p.1, p.2) (reports c.in_err-spread_argument.ensures.err (spreads_break c.args.state.now.graph c.loop-argument.state.graph c.args.world (numbers_of c.args.root.now.nodes) (by_name c.args.given.now.entries) (by_name c.loop-argument.given.entries) c.args.arguments.now c.loop-argument.argument-index c.argument-item.result
    c.loop-argument-test.true c.argument-item.is c.loop-argument.invariant (error_model c.in_err-spread_argument.field-0.0)))

pub loop-argument-preserved : goal.loop-argument-preserved
loop-argument-preserved c =
    spreads_next c.args.state.now.graph c.loop-argument.state.graph c.args.world (numbers_of c.args.root.now.nodes) (by_name c.args.given.now.entries) (by_name c.loop-argument.given.entries) c.args.arguments.now c.loop-argument.argument-index c.argument-item.result
    c.loop-argument-test.true c.argument-item.is c.loop-argument.invariant c.spread_argument.new.state.graph (by_name c.spread_argument.new.given.entries) c.in_ok-spread_argument.ensures.ok

pub returns-clause-ok : goal.returns-clause-ok
returns-clause-ok c =
    subst (λ (l : List InstantiationArgument). SpreadsGave c.args.state.now.graph c.args.world (numbers_of c.args.root.now.nodes) c.loop-argument.state.graph (by_name c.args.given.now.entries) (by_name c.loop-argument.given.entries) (spreads_of (arguments_from l)))
    (take_all c.loop-argument.argument-index (map argument_of c.args.arguments.now) (omega (arith, length-map c.args.arguments.now argument_of))) c.loop-argument.invariant
