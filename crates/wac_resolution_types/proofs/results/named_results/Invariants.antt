use Rattle.wac_resolution_types.proofs.Common.{[], map, take, by_name, named_type_of, values_of}
use Rattle.wac_resolution_types.specs.Funcs.{ResultSteps}
use Rattle.wac_resolution_types.proofs.results.named_results.Given as goal

abbrev pub invariant-loop-result : goal.invariant-loop-result
invariant-loop-result l = ResultSteps l.fn.state.graph l.state.graph (values_of l.names) [] (by_name l.all.entries) (take l.result-index (map named_type_of l.named))
