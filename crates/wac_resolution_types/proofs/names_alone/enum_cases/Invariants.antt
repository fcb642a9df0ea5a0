use Rattle.wac_resolution_types.proofs.Common.{map, take, Steps, enum_case_of, HasEnumCase}
use Rattle.wac_resolution_types.specs.Declarations.{names_alone}
use Rattle.wac_resolution_types.proofs.names_alone.enum_cases.Given as goal

abbrev pub invariant-loop-item : goal.invariant-loop-item
invariant-loop-item l = Steps HasEnumCase (names_alone l.fn.all.keys) (take l.item-index (map enum_case_of l.cases)) (names_alone l.all.keys)
