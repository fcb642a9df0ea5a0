use Rattle.wac_resolution_types.proofs.Common.{◌≡◌, [], map, ap, refl, rules, err_from_is_err_and, ident_of, enum_case_of, enum_decl_of, error_model, HasEnumCase, IsRepeatedPart, duplicate_enum_case, reports}
use Rattle.wac_graph_types.specs.declared.entry.DefinedType.TheVariants as types
use Rattle.wac_resolution_types.specs.Declarations.{names_alone}
use Rattle.wac_resolution_types.proofs.DeclarationParts.{names_from, names_fail_from, enum_is, alone_kinds}
use Rattle.wac_resolution_types.proofs.names_alone.enumeration.Goals as goal

pub returns-in_err-enum_cases-clause-err : goal.returns-in_err-enum_cases-clause-err
returns-in_err-enum_cases-clause-err c =
    let p = err_from_is_err_and c.from_residual.result c.from_residual.ensures.1 in
    let empty : c.new-all.result.keys ≡ [] = search rules in
    rw (p.1, p.2) (reports c.in_err-enum_cases.ensures.err (λ err. names_fail_from HasEnumCase (λ old before x. IsRepeatedPart duplicate_enum_case (ident_of c.args.decl.now.id) old x.id (error_model c.in_err-enum_cases.field-0.0)) c.new-all.result.keys (map enum_case_of c.deref.result.now) (map enum_case_of c.args.decl.now.cases.items)
    empty (ap (map enum_case_of) c.deref.ensures.value) err))

pub add_defined-requires : goal.add_defined-requires
add_defined-requires c = alone_kinds c.args.state.now.graph.types c.enum_cases.new.all.keys

pub returns-clause-ok : goal.returns-clause-ok
returns-clause-ok c =
    let empty : c.new-all.result.keys ≡ [] = search rules in
    enum_is c.args.state.now.graph c.add_defined.new.self.graph (types.Enum c.enum_cases.new.all) c.enum_cases.new.all.keys (enum_decl_of c.args.decl.now) c.in_ok-add_defined.field-0 refl (λ f. refl)
    (names_from HasEnumCase c.new-all.result.keys (names_alone c.enum_cases.new.all.keys) (map enum_case_of c.deref.result.now) (map enum_case_of c.args.decl.now.cases.items) empty (ap (map enum_case_of) c.deref.ensures.value) c.in_ok-enum_cases.ensures.ok)
    c.in_ok-add_defined.ensures
