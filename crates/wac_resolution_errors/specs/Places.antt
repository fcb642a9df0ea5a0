-- Where an error lies.
use Rattle.std.specs.Prelude.{Option, Some, None}
use Rattle.wac_lexer.specs.Span.{Span}
use Rattle.wac_resolution_errors.specs.Error.{Error, undefined_name, duplicate_name, duplicate_interface_export, duplicate_world_item, not_func_or_interface, not_interface, duplicate_world_include_name, not_world, missing_world_include, world_include_conflict, undefined_interface_type, not_interface_value_type, duplicate_resource_constructor, duplicate_resource_method, duplicate_variant_case, duplicate_record_field, duplicate_enum_case, duplicate_flag, invalid_alias_type, not_func_type, not_resource_type, not_value_type, duplicate_parameter, duplicate_result, borrow_in_result, unknown_package, package_missing_export, package_path_missing_export, declaration_conflict, use_conflict, missing_component_import, mismatched_instantiation_arg, duplicate_instantiation_arg, missing_instantiation_arg, not_an_instance, missing_instance_export, export_requires_as, export_conflict, duplicate_extern_name, invalid_extern_name, fill_argument_not_last, spread_instantiation_no_match, spread_export_no_effect, import_not_in_target, missing_target_export, target_mismatch, memory}

-- its span; what is imported for an instance alone has no place in a text
abbrev pub span_of : Error → Option Span
span_of (undefined_name name at) = Some at
span_of (duplicate_name name at previous) = Some at
span_of (duplicate_interface_export name interface at) = Some at
span_of (duplicate_world_item kind name world at) = Some at
span_of (not_func_or_interface name kind at) = Some at
span_of (not_interface name kind at) = Some at
span_of (duplicate_world_include_name name at) = Some at
span_of (not_world name kind at) = Some at
span_of (missing_world_include world name at) = Some at
span_of (world_include_conflict kind name from to at help) = Some at
span_of (undefined_interface_type name interface at) = Some at
span_of (not_interface_value_type name kind interface at) = Some at
span_of (duplicate_resource_constructor resource at) = Some at
span_of (duplicate_resource_method name resource at) = Some at
span_of (duplicate_variant_case case name at) = Some at
span_of (duplicate_record_field field name at) = Some at
span_of (duplicate_enum_case case name at) = Some at
span_of (duplicate_flag flag name at) = Some at
span_of (invalid_alias_type name kind at) = Some at
span_of (not_func_type name kind at) = Some at
span_of (not_resource_type name kind at) = Some at
span_of (not_value_type name kind at) = Some at
span_of (duplicate_parameter kind name at) = Some at
span_of (duplicate_result kind name at) = Some at
span_of (borrow_in_result at) = Some at
span_of (unknown_package name at) = Some at
span_of (package_missing_export kind path name export at) = Some at
span_of (package_path_missing_export name kind export at) = Some at
span_of (declaration_conflict name at export) = Some at
span_of (use_conflict kind name at help) = Some at
span_of (missing_component_import component import at) = Some at
span_of (mismatched_instantiation_arg name reason at) = Some at
span_of (duplicate_instantiation_arg name at) = Some at
span_of (missing_instantiation_arg name component at) = Some at
span_of (not_an_instance kind operation at) = Some at
span_of (missing_instance_export name at) = Some at
span_of (export_requires_as at) = Some at
span_of (export_conflict name kind at definition help) = Some at
span_of (duplicate_extern_name kind name at previous help) = Some at
span_of (invalid_extern_name name kind reason at) = Some at
span_of (fill_argument_not_last at) = Some at
span_of (spread_instantiation_no_match at) = Some at
span_of (spread_export_no_effect at) = Some at
span_of (import_not_in_target name world at) = at
span_of (missing_target_export name world kind at) = Some at
span_of (target_mismatch kind name world reason at) = at
span_of memory = None
