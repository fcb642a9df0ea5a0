use Rattle.wac_resolution_types.proofs.Common.{values_of, map, take, ty_of, types_from}
use Rattle.wac_resolution_types.specs.Types.{TypesAre}
use Rattle.wac_resolution_types.proofs.types.+types.Given as goal

abbrev pub invariant-value_types-loop-ty : goal.invariant-value_types-loop-ty
invariant-value_types-loop-ty l = TypesAre l.fn.state.graph l.state.graph (values_of l.names) (types_from (map ty_of (take l.ty-index l.types))) l.values.items
