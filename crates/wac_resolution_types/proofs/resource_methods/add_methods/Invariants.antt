use Rattle.wac_resolution_types.proofs.Common.{map, take, resource_method_of}
use Rattle.wac_resolution_types.specs.Lists.{lists_of}
use Rattle.wac_resolution_types.specs.Bodies.{MethodSteps}
use Rattle.wac_resolution_types.proofs.resource_methods.add_methods.Given as goal

abbrev pub invariant-loop-method : goal.invariant-loop-method
invariant-loop-method l = MethodSteps l.side l.fn.state.graph l.state.graph l.resource.name.now l.resource.id (lists_of l.fn.body) (lists_of l.body) (take l.method-index (map resource_method_of l.methods))
