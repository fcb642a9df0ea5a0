use Rattle.wac_resolution_expressions.proofs.Common.{map, take, arguments_from, by_name, argument_of, spreads_of, numbers_of}
use Rattle.wac_resolution_expressions.proofs.SpreadSteps.{SpreadsGave}
use Rattle.wac_resolution_expressions.proofs.spread_arguments.spreads.Given as goal

abbrev pub invariant-loop-argument : goal.invariant-loop-argument
invariant-loop-argument l = SpreadsGave l.fn.state.graph l.world (numbers_of l.root.nodes) l.state.graph (by_name l.fn.given.entries) (by_name l.given.entries) (spreads_of (arguments_from (take l.argument-index (map argument_of l.arguments))))
