use Rattle.wac_resolution_types.proofs.Common.{◌≡◌, [], map, ap, inl, refl, rules, err_from_is_err_and, by_name, ident_of, variant_case_of, variant_decl_of, error_model, HasCase, CaseBroken, values_of, reports, memory_model}
use Rattle.wac_graph_types.specs.declared.entry.DefinedType.TheVariants as types
use Rattle.wac_resolution_types.specs.Declarations.{perhaps}
use Rattle.wac_resolution_types.proofs.NamedParts.{cases_named}
use Rattle.wac_resolution_types.proofs.DeclarationParts.{none_named, parts_from, parts_fail_from, variant_is}
use Rattle.wac_resolution_types.proofs.variants.variant.Goals as goal

pub returns-in_err-take_cases-clause-err : goal.returns-in_err-take_cases-clause-err
returns-in_err-take_cases-clause-err c =
    let p = err_from_is_err_and c.from_residual.result c.from_residual.ensures.1 in
    let empty : c.new-cases.result.entries ≡ [] = search rules in
    rw (p.1, p.2) (reports c.in_err-take_cases.ensures.err (λ err numbering. parts_fail_from perhaps HasCase (λ s. CaseBroken s (ident_of c.args.decl.now.id) (error_model c.in_err-take_cases.field-0.0)) c.args.state.now.graph (values_of c.args.names.now) (by_name c.new-cases.result.entries) (map variant_case_of c.deref.result.now) (map variant_case_of c.args.decl.now.cases.items)
    (none_named c.new-cases.result.entries empty) (ap (map variant_case_of) c.deref.ensures.value) err numbering))

pub add_defined-requires : goal.add_defined-requires
add_defined-requires c = cases_named c.take_cases.new.state.graph.types c.take_cases.new.all.entries c.in_ok-take_cases.ensures.ok.named

pub returns-clause-ok : goal.returns-clause-ok
returns-clause-ok c =
    let empty : c.new-cases.result.entries ≡ [] = search rules in
    variant_is c.args.state.now.graph c.take_cases.new.state.graph c.add_defined.new.self.graph (values_of c.args.names.now) (types.Variant c.take_cases.new.all) c.take_cases.new.all.entries (variant_decl_of c.args.decl.now) c.in_ok-add_defined.field-0 refl (λ f. refl)
    (parts_from perhaps HasCase c.args.state.now.graph c.take_cases.new.state.graph (values_of c.args.names.now) (by_name c.new-cases.result.entries) (by_name c.take_cases.new.all.entries) (map variant_case_of c.deref.result.now) (map variant_case_of c.args.decl.now.cases.items)
    (none_named c.new-cases.result.entries empty) (ap (map variant_case_of) c.deref.ensures.value) c.in_ok-take_cases.ensures.ok)
    c.in_ok-add_defined.ensures

pub returns-in_err-add_defined-clause-err : goal.returns-in_err-add_defined-clause-err
returns-in_err-add_defined-clause-err c =
    let p = err_from_is_err_and c.from_residual-in_err-add_defined.result c.from_residual-in_err-add_defined.ensures.1 in
    rw p.1 (inl (memory_model p.0 p.2))
