use Rattle.wac_resolution_types.proofs.Common.{◌≡◌, ◌∙◌, inl, err_from_is_err_and, method_of, error_model, name_of_method, reports}
use Rattle.wac_resolution_types.specs.Lists.{lists_of}
use Rattle.wac_resolution_types.proofs.Methods.{method_goes, func_breaks}
use Rattle.wac_resolution_types.proofs.resource_methods.add_method.Goals as goal

pub returns-in_err-full-clause-err : goal.returns-in_err-full-clause-err
returns-in_err-full-clause-err c =
    let p = err_from_is_err_and c.from_residual.result c.from_residual.ensures.1 in
    rw (p.1, p.2) (reports c.in_err-full.ensures.err (λ err numbering before. inl (err numbering c.args.state.now.graph)))

pub returns-in_err-func-clause-err : goal.returns-in_err-func-clause-err
returns-in_err-func-clause-err c =
    let p = err_from_is_err_and c.from_residual-in_err-func.result c.from_residual-in_err-func.ensures.1 in
    rw (p.1, p.2) (reports c.in_err-func.ensures.err (func_breaks c.args.side c.args.state.now.graph (lists_of c.args.body.now) c.args.resource.now.name.now c.args.resource.now.id (method_of c.args.method.now) (error_model c.in_err-func.field-0.0) c.in_ok-full.ensures.method c.in_ok-full.ensures.fixed))

pub returns-clause-ok : goal.returns-clause-ok
returns-clause-ok c =
    let same : c.deref.result.now ≡ name_of_method c.args.method.now.is_static c.args.resource.now.name.now c.args.method.now.id.string.now = c.deref.ensures ∙ c.in_ok-full.ensures.name in
    method_goes c.args.side c.args.state.now.graph c.method.new.state.graph (lists_of c.args.body.now) (lists_of c.add.new.self) c.args.resource.now.name.now c.deref.result.now c.args.resource.now.id (method_of c.args.method.now) c.in_ok-func.func
    c.requires.body c.in_ok-full.ensures.method c.in_ok-full.ensures.fixed same c.in_ok-func.ensures.ok c.in_ok-add.ensures
