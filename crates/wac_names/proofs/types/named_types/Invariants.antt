use Rattle.std.proofs.Common.{take, map, flat_map}
use Rattle.wac_ast_types.specs.Declarations.{named_type_of}
use Rattle.wac_names.specs.Steps.{named_type_steps}
use Rattle.wac_names.specs.Traced.{Takes}
use Rattle.wac_names.proofs.types.named_types.Given as goal

abbrev pub invariant-loop-one : goal.invariant-loop-one
invariant-loop-one l = Takes l.fn.finder l.finder (flat_map (named_type_steps l.here.level) (map named_type_of (take l.one-index l.all)))
