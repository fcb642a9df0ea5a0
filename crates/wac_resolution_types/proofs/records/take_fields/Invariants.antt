use Rattle.wac_resolution_types.proofs.Common.{map, take, by_name, field_of, values_of}
use Rattle.wac_resolution_types.specs.Declarations.{FieldSteps}
use Rattle.wac_resolution_types.proofs.records.take_fields.Given as goal

abbrev pub invariant-loop-field : goal.invariant-loop-field
invariant-loop-field l = FieldSteps l.fn.state.graph l.state.graph (values_of l.names) (by_name l.fn.all.entries) (by_name l.all.entries) (take l.field-index (map field_of l.fields))
