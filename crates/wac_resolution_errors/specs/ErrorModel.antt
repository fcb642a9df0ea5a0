-- What an error reports, apart from where its texts lie in memory.
use Rattle.std.specs.Prelude.{option_map, string_bytes}
use Rattle.wac_resolution_errors.specs.Error.{Error as ErrorModel, Operation, access, spread}
use Rattle.wac_resolution_errors.specs.Error as rules
use Rattle.wac_resolution_errors.specs.declared.error.Error.{Error}
use Rattle.wac_resolution_errors.specs.declared.error.Error.TheVariants as errors
use Rattle.wac_resolution_errors.specs.declared.operation.InstanceOperation.{InstanceOperation}
use Rattle.wac_resolution_errors.specs.declared.operation.InstanceOperation.TheVariants as operations

abbrev pub operation_of : InstanceOperation → Operation
operation_of operations.Access = access
operation_of operations.Spread = spread

abbrev pub error_model : Error → ErrorModel
error_model (errors.UndefinedName name span) = rules.undefined_name (string_bytes name) span
error_model (errors.DuplicateName name span previous) = rules.duplicate_name (string_bytes name) span previous
error_model (errors.DuplicateInterfaceExport name interface_name span) = rules.duplicate_interface_export (string_bytes name) (option_map string_bytes interface_name) span
error_model (errors.DuplicateWorldItem kind name world span) = rules.duplicate_world_item kind (string_bytes name) (string_bytes world) span
error_model (errors.NotFuncOrInterface name kind span) = rules.not_func_or_interface (string_bytes name) kind.now span
error_model (errors.NotInterface name kind span) = rules.not_interface (string_bytes name) kind.now span
error_model (errors.DuplicateWorldIncludeName name span) = rules.duplicate_world_include_name (string_bytes name) span
error_model (errors.NotWorld name kind span) = rules.not_world (string_bytes name) kind.now span
error_model (errors.MissingWorldInclude world name span) = rules.missing_world_include (string_bytes world) (string_bytes name) span
error_model (errors.WorldIncludeConflict kind name from to span help) = rules.world_include_conflict kind (string_bytes name) (string_bytes from) (string_bytes to) span (option_map (λ text. text.now) help)
error_model (errors.UndefinedInterfaceType name interface_name span) = rules.undefined_interface_type (string_bytes name) (string_bytes interface_name) span
error_model (errors.NotInterfaceValueType name kind interface_name span) = rules.not_interface_value_type (string_bytes name) kind.now (string_bytes interface_name) span
error_model (errors.DuplicateResourceConstructor resource span) = rules.duplicate_resource_constructor (string_bytes resource) span
error_model (errors.DuplicateResourceMethod name resource span) = rules.duplicate_resource_method (string_bytes name) (string_bytes resource) span
error_model (errors.DuplicateVariantCase case name span) = rules.duplicate_variant_case (string_bytes case) (string_bytes name) span
error_model (errors.DuplicateRecordField field name span) = rules.duplicate_record_field (string_bytes field) (string_bytes name) span
error_model (errors.DuplicateEnumCase case name span) = rules.duplicate_enum_case (string_bytes case) (string_bytes name) span
error_model (errors.DuplicateFlag flag name span) = rules.duplicate_flag (string_bytes flag) (string_bytes name) span
error_model (errors.InvalidAliasType name kind span) = rules.invalid_alias_type (string_bytes name) kind.now span
error_model (errors.NotFuncType name kind span) = rules.not_func_type (string_bytes name) kind.now span
error_model (errors.NotResourceType name kind span) = rules.not_resource_type (string_bytes name) kind.now span
error_model (errors.NotValueType name kind span) = rules.not_value_type (string_bytes name) kind.now span
error_model (errors.DuplicateParameter kind name span) = rules.duplicate_parameter kind (string_bytes name) span
error_model (errors.DuplicateResult kind name span) = rules.duplicate_result kind (string_bytes name) span
error_model (errors.BorrowInResult span) = rules.borrow_in_result span
error_model (errors.UnknownPackage name span) = rules.unknown_package (string_bytes name) span
error_model (errors.PackageMissingExport component export kind path span) = rules.package_missing_export (option_map (λ text. text.now) kind) (string_bytes path) (string_bytes component) (string_bytes export) span
error_model (errors.PackagePathMissingExport name kind export span) = rules.package_path_missing_export (string_bytes name) kind.now (string_bytes export) span
error_model (errors.MissingComponentImport component import span) = rules.missing_component_import (string_bytes component) (string_bytes import) span
error_model (errors.MismatchedInstantiationArg name source span) = rules.mismatched_instantiation_arg (string_bytes name) source span
error_model (errors.DuplicateInstantiationArg name span) = rules.duplicate_instantiation_arg (string_bytes name) span
error_model (errors.MissingInstantiationArg name component span) = rules.missing_instantiation_arg (string_bytes name) (string_bytes component) span
error_model (errors.NotAnInstance kind operation span) = rules.not_an_instance kind.now (operation_of operation) span
error_model (errors.MissingInstanceExport name span) = rules.missing_instance_export (string_bytes name) span
error_model (errors.ExportRequiresAs span) = rules.export_requires_as span
error_model (errors.DeclarationConflict name span export) = rules.declaration_conflict (string_bytes name) span export
error_model (errors.ExportConflict name kind span definition help) = rules.export_conflict (string_bytes name) kind.now span definition (option_map (λ text. text.now) help)
error_model (errors.DuplicateExternName kind name span previous help) = rules.duplicate_extern_name kind (string_bytes name) span previous (option_map (λ text. text.now) help)
error_model (errors.InvalidExternName name kind source span) = rules.invalid_extern_name (string_bytes name) kind source span
error_model (errors.UseConflict kind name span help) = rules.use_conflict kind (string_bytes name) span (option_map (λ text. text.now) help)
error_model (errors.FillArgumentNotLast span) = rules.fill_argument_not_last span
error_model (errors.SpreadInstantiationNoMatch span) = rules.spread_instantiation_no_match span
error_model (errors.SpreadExportNoEffect span) = rules.spread_export_no_effect span
error_model (errors.ImportNotInTarget name world span) = rules.import_not_in_target (string_bytes name) (string_bytes world) span
error_model (errors.MissingTargetExport name world kind span) = rules.missing_target_export (string_bytes name) (string_bytes world) kind.now span
error_model (errors.TargetMismatch kind name world source span) = rules.target_mismatch kind (string_bytes name) (string_bytes world) source span
error_model (errors.Memory _) = rules.memory
