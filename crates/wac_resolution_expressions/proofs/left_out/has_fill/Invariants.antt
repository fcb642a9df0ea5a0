use Rattle.wac_resolution_expressions.proofs.Common.{◌≡◌, map, take, false, arguments_from, argument_of, has_fill}
use Rattle.wac_resolution_expressions.proofs.left_out.has_fill.Given as goal

abbrev pub invariant-loop-argument : goal.invariant-loop-argument
invariant-loop-argument l = has_fill (arguments_from (take l.argument-index (map argument_of l.arguments))) ≡ false
