use Rattle.std.proofs.Common.{take, map, flat_map}
use Rattle.wac_ast_types.specs.Declarations.{resource_method_of}
use Rattle.wac_names.specs.Steps.{method_steps}
use Rattle.wac_names.specs.Traced.{Takes}
use Rattle.wac_names.proofs.declarations.methods.Given as goal

abbrev pub invariant-loop-one : goal.invariant-loop-one
invariant-loop-one l = Takes l.fn.finder l.finder (flat_map (method_steps l.here.level) (map resource_method_of (take l.one-index l.methods)))
