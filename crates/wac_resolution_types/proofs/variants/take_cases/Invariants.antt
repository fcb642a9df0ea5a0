use Rattle.wac_resolution_types.proofs.Common.{map, take, by_name, variant_case_of, values_of}
use Rattle.wac_resolution_types.specs.Declarations.{CaseSteps}
use Rattle.wac_resolution_types.proofs.variants.take_cases.Given as goal

abbrev pub invariant-loop-case : goal.invariant-loop-case
invariant-loop-case l = CaseSteps l.fn.state.graph l.state.graph (values_of l.names) (by_name l.fn.all.entries) (by_name l.all.entries) (take l.case-index (map variant_case_of l.cases))
