use Rattle.wac_resolution_types.proofs.Common.{map, take, arith, err_from_is_err_and, take_all, length-map, by_name, field_of, ident_of, error_model, HasField, FieldBroken, values_of, reports, still_named}
use Rattle.wac_resolution_types.specs.Funcs.{given}
use Rattle.wac_resolution_types.proofs.NamedParts.{no_parts, parts_step, parts_all, parts_break}
use Rattle.wac_resolution_types.proofs.records.take_fields.Goals as goal

pub loop-field-init : goal.loop-field-init
loop-field-init c = no_parts given HasField c.args.state.now.graph (values_of c.args.names.now) (by_name c.args.all.now.entries) c.requires.parts

pub take_field-requires-clause-scope : goal.take_field-requires-clause-scope
take_field-requires-clause-scope c = still_named c.args.state.now.graph c.loop-field.state.graph (values_of c.args.names.now) c.loop-field.invariant.grows.grows c.requires.scope

pub take_field-requires-clause-parts : goal.take_field-requires-clause-parts
take_field-requires-clause-parts c = c.loop-field.invariant.named

pub returns-in_err-take_field-clause-err : goal.returns-in_err-take_field-clause-err
returns-in_err-take_field-clause-err c =
    let p = err_from_is_err_and c.from_residual.result c.from_residual.ensures.1 in
    rw (p.1, p.2) (reports c.in_err-take_field.ensures.err (parts_break given HasField (λ s. FieldBroken s (ident_of c.args.declared.now) (error_model c.in_err-take_field.field-0.0)) field_of c.args.state.now.graph c.loop-field.state.graph (values_of c.args.names.now) (by_name c.args.all.now.entries) (by_name c.loop-field.all.entries) c.args.fields.now c.loop-field.field-index c.field-item.result
    c.loop-field-test.true c.field-item.is c.requires.scope c.loop-field.invariant))

pub loop-field-preserved : goal.loop-field-preserved
loop-field-preserved c =
    parts_step given HasField field_of c.args.state.now.graph c.loop-field.state.graph c.take_field.new.state.graph (values_of c.args.names.now) (by_name c.args.all.now.entries) (by_name c.loop-field.all.entries) (by_name c.take_field.new.all.entries) c.args.fields.now c.loop-field.field-index c.field-item.result
    c.loop-field-test.true c.field-item.is c.requires.scope c.loop-field.invariant c.in_ok-take_field.ensures.ok

pub returns-clause-ok : goal.returns-clause-ok
returns-clause-ok c =
    parts_all given HasField c.args.state.now.graph c.loop-field.state.graph (values_of c.args.names.now) (by_name c.args.all.now.entries) (by_name c.loop-field.all.entries) (take c.loop-field.field-index (map field_of c.args.fields.now)) (map field_of c.args.fields.now)
    (take_all c.loop-field.field-index (map field_of c.args.fields.now) (omega (arith, length-map c.args.fields.now field_of))) c.loop-field.invariant
