-- What messages say.
use Rattle.std.specs.Prelude.{ℕ, List, ◌++◌, codes, Some, None}
use Rattle.wac_resolution_errors.specs.Error.{Error, Operation, access, spread}
use Rattle.wac_resolution_errors.specs.Error as rules
use Rattle.wac_resolution_errors.specs.Shapes.{quoted, pair, kinded, kinded_within, part_of_function, missing_export, world_item, include_conflict, export_conflict, extern_name, invalid_name, use_conflict, target_mismatch}

-- what an instance is required for
abbrev pub operation_word : Operation → List ℕ
operation_word access = codes "an access operation"
operation_word spread = codes "a spread operation"

abbrev pub text_of : Error → List ℕ
text_of (rules.undefined_name name span) = quoted (codes "undefined name ") name (codes "")
text_of (rules.duplicate_name name span previous) = quoted (codes "") name (codes " is already defined")
text_of (rules.duplicate_interface_export name None span) = quoted (codes "duplicate interface export ") name (codes "")
text_of (rules.duplicate_interface_export name (Some interface) span) = pair (codes "duplicate interface export ") name (codes " for interface ") interface
text_of (rules.duplicate_world_item kind name world span) = world_item kind name world
text_of (rules.not_func_or_interface name kind span) = kinded name kind (codes "is not a function type or interface")
text_of (rules.not_interface name kind span) = kinded name kind (codes "is not an interface")
text_of (rules.duplicate_world_include_name name span) = quoted (codes "duplicate ") name (codes " in world include `with` clause")
text_of (rules.not_world name kind span) = kinded name kind (codes "is not a world")
text_of (rules.missing_world_include world name span) = pair (codes "world ") world (codes " does not have an import or export named ") name
text_of (rules.world_include_conflict kind name from to span help) = include_conflict kind name from to
text_of (rules.undefined_interface_type name interface_name span) = pair (codes "a type named ") name (codes " is not defined in interface ") interface_name
text_of (rules.not_interface_value_type name kind interface_name span) = kinded_within name kind (codes "is not a value type in interface") interface_name
text_of (rules.duplicate_resource_constructor resource span) = quoted (codes "duplicate constructor for resource ") resource (codes "")
text_of (rules.duplicate_resource_method name resource span) = pair (codes "duplicate method ") name (codes " for resource ") resource
text_of (rules.duplicate_variant_case case name span) = pair (codes "duplicate case ") case (codes " for variant type ") name
text_of (rules.duplicate_record_field field name span) = pair (codes "duplicate field ") field (codes " for record type ") name
text_of (rules.duplicate_enum_case case name span) = pair (codes "duplicate case ") case (codes " for enum type ") name
text_of (rules.duplicate_flag flag name span) = pair (codes "duplicate flag ") flag (codes " for flags type ") name
text_of (rules.invalid_alias_type name kind span) = kinded name kind (codes "cannot be used in a type alias")
text_of (rules.not_func_type name kind span) = kinded name kind (codes "is not a function type")
text_of (rules.not_resource_type name kind span) = kinded name kind (codes "is not a resource type")
text_of (rules.not_value_type name kind span) = kinded name kind (codes "cannot be used as a value type")
text_of (rules.duplicate_parameter kind name span) = part_of_function kind (codes "parameter") name
text_of (rules.duplicate_result kind name span) = part_of_function kind (codes "result") name
text_of (rules.borrow_in_result span) = codes "function result cannot recursively contain a borrow type"
text_of (rules.unknown_package name span) = quoted (codes "unknown package ") name (codes "")
text_of (rules.package_missing_export None path component export span) = pair (codes "package ") component (codes " has no export named ") export
text_of (rules.package_missing_export (Some kind) path component export span) = missing_export kind path component export
text_of (rules.package_path_missing_export name kind export span) = kinded_within name kind (codes "has no export named") export
text_of (rules.missing_component_import component import span) = pair (codes "component ") component (codes " has no import named ") import
text_of (rules.mismatched_instantiation_arg name source span) = quoted (codes "mismatched instantiation argument ") name (codes "")
text_of (rules.duplicate_instantiation_arg name span) = quoted (codes "duplicate instantiation argument ") name (codes "")
text_of (rules.missing_instantiation_arg name component span) = pair (codes "missing instantiation argument ") name (codes " for package ") component
text_of (rules.not_an_instance kind operation span) = codes "an instance is required to perform " ++ operation_word operation
text_of (rules.missing_instance_export name span) = quoted (codes "the instance has no export named ") name (codes "")
text_of (rules.export_requires_as span) = codes "export statement requires an `as` clause as the export name cannot be inferred"
text_of (rules.declaration_conflict name span export) = quoted (codes "type declaration ") name (codes " conflicts with a previous export of the same name")
text_of (rules.export_conflict name kind span definition help) = export_conflict name kind
text_of (rules.duplicate_extern_name kind name span previous help) = extern_name kind name
text_of (rules.invalid_extern_name name kind source span) = invalid_name kind name
text_of (rules.use_conflict kind name span help) = use_conflict kind name
text_of (rules.fill_argument_not_last span) = codes "implicit import argument `...` must be the last argument"
text_of (rules.spread_instantiation_no_match span) = codes "the instance has no matching exports for the remaining unsatisfied arguments"
text_of (rules.spread_export_no_effect span) = codes "instance has no exports or all exports of the instance match previously exported names"
text_of (rules.import_not_in_target name world span) = pair (codes "target world ") world (codes " does not have an import named ") name
text_of (rules.missing_target_export name world kind span) = pair (codes "target world ") world (codes " requires an export named ") name
text_of (rules.target_mismatch kind name world source span) = target_mismatch kind name world
text_of rules.memory = codes "out of memory"
