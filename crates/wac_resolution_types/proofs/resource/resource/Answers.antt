use Rattle.wac_resolution_types.proofs.Common.{List, inl, map, subst, err_from_is_err_and, Fails, resource_decl_of, resource_method_of, entry_means, Numbering, error_model, HasMethod, MethodBroken, places_of, reports}
use Rattle.wac_ast_types.specs.declared.resource.ResourceMethod.{ResourceMethod}
use Rattle.wac_resolution_types.specs.Lists.{lists_of}
use Rattle.wac_resolution_types.specs.Bodies.{body_of, MethodSteps}
use Rattle.wac_resolution_types.specs.Owners.{owner_of}
use Rattle.wac_resolution_types.proofs.Declared.{resource_item, methods_broken}
use Rattle.wac_resolution_types.proofs.resource.resource.Goals as goal

pub returns-in_err-id-clause-err : goal.returns-in_err-id-clause-err
returns-in_err-id-clause-err c =
    let p = err_from_is_err_and c.from_residual.result c.from_residual.ensures.1 in
    rw (p.1, p.2) (reports c.in_err-id.ensures.err (λ err numbering. inl (err numbering c.args.state.now.graph)))

pub add_methods-requires-clause-body : goal.add_methods-requires-clause-body
add_methods-requires-clause-body c = c.in_ok-id.ensures.ok.body.body

pub add_methods-requires-clause-resource : goal.add_methods-requires-clause-resource
add_methods-requires-clause-resource c = c.in_ok-id.ensures.ok.there

pub returns-in_err-add_methods-clause-err : goal.returns-in_err-add_methods-clause-err
returns-in_err-add_methods-clause-err c =
    let p = err_from_is_err_and c.from_residual-in_err-add_methods.result c.from_residual-in_err-add_methods.ensures.1 in
    let name = c.args.decl.now.id.string.now in
    rw (p.1, p.2) (reports c.in_err-add_methods.ensures.err (λ err. methods_broken (owner_of c.args.section.now.owner) c.args.section.now.side c.args.state.now.graph c.declare_resource.new.state.graph (lists_of c.args.body.now) (lists_of c.declare_resource.new.body) (places_of c.args.body.now.names) (resource_decl_of c.args.decl.now) c.in_ok-id.id (error_model c.in_err-add_methods.field-0.0) c.in_ok-id.ensures.ok
    (subst (λ (l : List ResourceMethod). (numbering : Numbering) → Fails (HasMethod c.args.section.now.side name (entry_means numbering c.declare_resource.new.state.graph c.in_ok-id.id.0)) (MethodBroken c.args.section.now.side name (entry_means numbering c.declare_resource.new.state.graph c.in_ok-id.id.0) (error_model c.in_err-add_methods.field-0.0)) (body_of numbering c.declare_resource.new.state.graph c.declare_resource.new.body) (map resource_method_of l)) c.deref.ensures.value err)))

pub returns-clause-ok : goal.returns-clause-ok
returns-clause-ok c =
    let go = subst (λ (l : List ResourceMethod). MethodSteps c.args.section.now.side c.declare_resource.new.state.graph c.add_methods.new.state.graph c.args.decl.now.id.string.now c.in_ok-id.id (lists_of c.declare_resource.new.body) (lists_of c.add_methods.new.body) (map resource_method_of l)) c.deref.ensures.value c.in_ok-add_methods.ensures.ok in
    resource_item c.args.section.now.side c.args.state.now.graph c.declare_resource.new.state.graph c.add_methods.new.state.graph (lists_of c.args.body.now) (lists_of c.declare_resource.new.body) (lists_of c.add_methods.new.body) (resource_decl_of c.args.decl.now) c.in_ok-id.id c.in_ok-id.ensures.ok go
