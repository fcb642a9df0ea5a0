use Rattle.wac_resolution_types.proofs.Common.{◌≡◌, [], map, ap, refl, rules, err_from_is_err_and, by_name, ident_of, field_of, record_decl_of, error_model, HasField, FieldBroken, values_of, reports}
use Rattle.wac_graph_types.specs.declared.entry.DefinedType.TheVariants as types
use Rattle.wac_resolution_types.specs.Funcs.{given}
use Rattle.wac_resolution_types.proofs.NamedParts.{values_named}
use Rattle.wac_resolution_types.proofs.DeclarationParts.{none_named, parts_from, parts_fail_from, record_is}
use Rattle.wac_resolution_types.proofs.records.record.Goals as goal

pub returns-in_err-take_fields-clause-err : goal.returns-in_err-take_fields-clause-err
returns-in_err-take_fields-clause-err c =
    let p = err_from_is_err_and c.from_residual.result c.from_residual.ensures.1 in
    let empty : c.new-fields.result.entries ≡ [] = search rules in
    rw (p.1, p.2) (reports c.in_err-take_fields.ensures.err (λ err numbering. parts_fail_from given HasField (λ s. FieldBroken s (ident_of c.args.decl.now.id) (error_model c.in_err-take_fields.field-0.0)) c.args.state.now.graph (values_of c.args.names.now) (by_name c.new-fields.result.entries) (map field_of c.deref.result.now) (map field_of c.args.decl.now.fields.items)
    (none_named c.new-fields.result.entries empty) (ap (map field_of) c.deref.ensures.value) err numbering))

pub add_defined-requires : goal.add_defined-requires
add_defined-requires c = values_named c.take_fields.new.state.graph.types c.take_fields.new.all.entries c.in_ok-take_fields.ensures.ok.named

pub returns-clause-ok : goal.returns-clause-ok
returns-clause-ok c =
    let empty : c.new-fields.result.entries ≡ [] = search rules in
    record_is c.args.state.now.graph c.take_fields.new.state.graph c.add_defined.new.self.graph (values_of c.args.names.now) (types.Record c.take_fields.new.all) c.take_fields.new.all.entries (record_decl_of c.args.decl.now) c.in_ok-add_defined.field-0 refl (λ f. refl)
    (parts_from given HasField c.args.state.now.graph c.take_fields.new.state.graph (values_of c.args.names.now) (by_name c.new-fields.result.entries) (by_name c.take_fields.new.all.entries) (map field_of c.deref.result.now) (map field_of c.args.decl.now.fields.items)
    (none_named c.new-fields.result.entries empty) (ap (map field_of) c.deref.ensures.value) c.in_ok-take_fields.ensures.ok)
    c.in_ok-add_defined.ensures
