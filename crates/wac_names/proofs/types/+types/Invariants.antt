use Rattle.std.proofs.Common.{take, map, flat_map}
use Rattle.wac_ast_types.specs.Types.{ty_of}
use Rattle.wac_names.specs.Steps.{type_steps}
use Rattle.wac_names.specs.Traced.{Takes}
use Rattle.wac_names.proofs.types.+types.Given as goal

abbrev pub invariant-value_types-loop-ty : goal.invariant-value_types-loop-ty
invariant-value_types-loop-ty l = Takes l.fn.finder l.finder (flat_map (type_steps l.here.level) (map ty_of (take l.ty-index l.types)))
