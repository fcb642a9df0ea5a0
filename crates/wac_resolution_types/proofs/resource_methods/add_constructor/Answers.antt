use Rattle.wac_resolution_types.proofs.Common.{◌≡◌, ◌∙◌, List, [], inl, map, subst, err_from_is_err_and, named_type_of, constructor_of, Numbering, error_model, constructor_name, ParamsBroken, values_of, scope_of, reports}
use Rattle.wac_resolution_types.specs.Funcs.{ConstructorIs}
use Rattle.wac_graph_types.specs.declared.kind.FuncKind.TheVariants as funcs
use Rattle.wac_ast_types.specs.declared.func_type.NamedType.{NamedType}
use Rattle.wac_resolution_types.specs.Lists.{lists_of}
use Rattle.wac_resolution_types.proofs.Methods.{constructor_goes, params_break}
use Rattle.wac_resolution_types.proofs.resource_methods.add_constructor.Goals as goal

pub returns-in_err-full-clause-err : goal.returns-in_err-full-clause-err
returns-in_err-full-clause-err c =
    let p = err_from_is_err_and c.from_residual.result c.from_residual.ensures.1 in
    rw (p.1, p.2) (reports c.in_err-full.ensures.err (λ err numbering before. inl (err numbering c.args.state.now.graph)))

pub returns-in_err-func-clause-err : goal.returns-in_err-func-clause-err
returns-in_err-func-clause-err c =
    let p = err_from_is_err_and c.from_residual-in_err-func.result c.from_residual-in_err-func.ensures.1 in
    rw (p.1, p.2) (reports c.in_err-func.ensures.err (λ err. params_break c.args.side c.args.state.now.graph (lists_of c.args.body.now) c.args.resource.now.name.now c.args.resource.now.id (constructor_of c.args.constructor.now) (error_model c.in_err-func.field-0.0) c.in_ok-full.ensures.ok
    (subst (λ (l : List NamedType). (numbering : Numbering) → ParamsBroken funcs.Constructor (scope_of numbering c.args.state.now.graph (values_of c.args.body.now.names)) [] (map named_type_of l) (error_model c.in_err-func.field-0.0)) c.deref.ensures.value err)))

pub returns-clause-ok : goal.returns-clause-ok
returns-clause-ok c =
    let added = subst (λ (l : List NamedType). ConstructorIs c.args.state.now.graph c.constructor.new.state.graph (values_of c.args.body.now.names) c.args.resource.now.id (map named_type_of l) c.in_ok-func.func) c.deref.ensures.value c.in_ok-func.ensures.ok in
    let same : c.deref-2.result.now ≡ constructor_name c.args.resource.now.name.now = c.deref-2.ensures ∙ c.in_ok-full.ensures.name in
    constructor_goes c.args.side c.args.state.now.graph c.constructor.new.state.graph (lists_of c.args.body.now) (lists_of c.add.new.self) c.args.resource.now.name.now c.deref-2.result.now c.args.resource.now.id (constructor_of c.args.constructor.now) c.in_ok-func.func
    c.requires.body c.in_ok-full.ensures.ok same added c.in_ok-add.ensures
