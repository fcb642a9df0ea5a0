use Rattle.wac_resolution_types.proofs.Common.{map, take, by_name, named_type_of, values_of}
use Rattle.wac_resolution_types.specs.Funcs.{ParamSteps}
use Rattle.wac_resolution_types.proofs.func.take_params.Given as goal

abbrev pub invariant-loop-param : goal.invariant-loop-param
invariant-loop-param l = ParamSteps l.fn.state.graph l.state.graph (values_of l.names) (by_name l.fn.all.entries) (by_name l.all.entries) (take l.param-index (map named_type_of l.params))
