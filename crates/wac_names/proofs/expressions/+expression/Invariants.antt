use Rattle.std.proofs.Common.{take, map, flat_map}
use Rattle.wac_ast_statements.specs.Expressions.{argument_of}
use Rattle.wac_names.specs.Steps.{argument_steps}
use Rattle.wac_names.specs.Traced.{Takes}
use Rattle.wac_names.proofs.expressions.+expression.Given as goal

abbrev pub invariant-arguments-loop-one : goal.invariant-arguments-loop-one
invariant-arguments-loop-one l = Takes l.fn.finder l.finder (flat_map argument_steps (map argument_of (take l.one-index l.arguments)))
