use Rattle.wac_resolution_types.proofs.Common.{IfOk-weaker, MatchResult-weaker, by_name, func_type_of, error_model, values_of, reports}
use Rattle.wac_resolution_types.proofs.FuncParts.{first_named, method_is, method_breaks}
use Rattle.wac_resolution_types.proofs.func.method.Goals as goal

pub function-requires-clause-parts : goal.function-requires-clause-parts
function-requires-clause-parts c = first_named c.args.state.now.graph.types c.args.is_static c.args.resource (by_name c.in_ok-first.first.entries) c.in_ok-first.ensures c.requires.resource

pub returns-clause-ok : goal.returns-clause-ok
returns-clause-ok c =
    IfOk-weaker c.function.result _ _ (λ f h. method_is c.args.state.now.graph c.function.new.state.graph (values_of c.args.names.now) c.args.is_static c.args.resource (by_name c.in_ok-first.first.entries) (func_type_of c.args.func.now) f c.in_ok-first.ensures h) c.function.ensures.ok

pub returns-clause-err : goal.returns-clause-err
returns-clause-err c =
    MatchResult-weaker c.function.result c.function.ensures.err (λ f h. h) (λ e h. reports h (method_breaks c.kind_of_method.result c.args.state.now.graph (values_of c.args.names.now) c.args.is_static c.args.resource (by_name c.in_ok-first.first.entries) (func_type_of c.args.func.now) (error_model e) c.kind_of_method.ensures c.in_ok-first.ensures))
