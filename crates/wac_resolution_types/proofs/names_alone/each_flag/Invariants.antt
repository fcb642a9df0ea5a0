use Rattle.wac_resolution_types.proofs.Common.{map, take, Steps, flag_of, HasFlag}
use Rattle.wac_resolution_types.specs.Declarations.{names_alone}
use Rattle.wac_resolution_types.proofs.names_alone.each_flag.Given as goal

abbrev pub invariant-loop-item : goal.invariant-loop-item
invariant-loop-item l = Steps HasFlag (names_alone l.fn.all.keys) (take l.item-index (map flag_of l.flags)) (names_alone l.all.keys)
