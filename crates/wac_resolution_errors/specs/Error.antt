-- Why documents are rejected.
use Rattle.std.specs.Prelude.{◌≡◌, ◌⊎◌, ℕ, List, Option}
use Rattle.wac_lexer.specs.Span.{Span}
use Rattle.wac_graph_types.specs.declared.kind.ExternKind.{ExternKind}
use Rattle.wac_graph_types.specs.declared.kind.FuncKind.{FuncKind}
use Rattle.wac_graph_types.specs.declared.rules.Reason.{Reason}

-- what an instance is required for
pub data Operation : Type 0 where
  access spread : Operation

-- each rule that can be broken, with the fields of its error and the span
pub data Error : Type 0 where
  undefined_name : (name : List ℕ) (at : Span) → Error
  duplicate_name : (name : List ℕ) (at previous : Span) → Error
  duplicate_interface_export : (name : List ℕ) (interface : Option (List ℕ)) (at : Span) → Error
  duplicate_world_item : ExternKind → (name world : List ℕ) (at : Span) → Error
  not_func_or_interface : (name kind : List ℕ) (at : Span) → Error
  not_interface : (name kind : List ℕ) (at : Span) → Error
  duplicate_world_include_name : (name : List ℕ) (at : Span) → Error
  not_world : (name kind : List ℕ) (at : Span) → Error
  missing_world_include : (world name : List ℕ) (at : Span) → Error
  world_include_conflict : ExternKind → (name from to : List ℕ) (at : Span) (help : Option (List ℕ)) → Error
  undefined_interface_type : (name interface : List ℕ) (at : Span) → Error
  not_interface_value_type : (name kind interface : List ℕ) (at : Span) → Error
  duplicate_resource_constructor : (resource : List ℕ) (at : Span) → Error
  duplicate_resource_method : (name resource : List ℕ) (at : Span) → Error
  duplicate_variant_case : (case name : List ℕ) (at : Span) → Error
  duplicate_record_field : (field name : List ℕ) (at : Span) → Error
  duplicate_enum_case : (case name : List ℕ) (at : Span) → Error
  duplicate_flag : (flag name : List ℕ) (at : Span) → Error
  invalid_alias_type : (name kind : List ℕ) (at : Span) → Error
  not_func_type : (name kind : List ℕ) (at : Span) → Error
  not_resource_type : (name kind : List ℕ) (at : Span) → Error
  not_value_type : (name kind : List ℕ) (at : Span) → Error
  duplicate_parameter : FuncKind → (name : List ℕ) (at : Span) → Error
  duplicate_result : FuncKind → (name : List ℕ) (at : Span) → Error
  borrow_in_result : (at : Span) → Error
  unknown_package : (name : List ℕ) (at : Span) → Error
  package_missing_export : (kind : Option (List ℕ)) (path name export : List ℕ) (at : Span) → Error
  package_path_missing_export : (name kind export : List ℕ) (at : Span) → Error
  declaration_conflict : (name : List ℕ) (at export : Span) → Error
  use_conflict : ExternKind → (name : List ℕ) (at : Span) (help : Option (List ℕ)) → Error
  missing_component_import : (component import : List ℕ) (at : Span) → Error
  mismatched_instantiation_arg : (name : List ℕ) → Reason → (at : Span) → Error
  duplicate_instantiation_arg : (name : List ℕ) (at : Span) → Error
  missing_instantiation_arg : (name component : List ℕ) (at : Span) → Error
  not_an_instance : (kind : List ℕ) → Operation → (at : Span) → Error
  missing_instance_export : (name : List ℕ) (at : Span) → Error
  export_requires_as : (at : Span) → Error
  export_conflict : (name kind : List ℕ) (at definition : Span) (help : Option (List ℕ)) → Error
  duplicate_extern_name : ExternKind → (name : List ℕ) (at previous : Span) (help : Option (List ℕ)) → Error
  invalid_extern_name : (name : List ℕ) → ExternKind → Reason → (at : Span) → Error
  fill_argument_not_last : (at : Span) → Error
  spread_instantiation_no_match : (at : Span) → Error
  spread_export_no_effect : (at : Span) → Error
  import_not_in_target : (name world : List ℕ) (at : Option Span) → Error
  missing_target_export : (name world kind : List ℕ) (at : Span) → Error
  target_mismatch : ExternKind → (name world : List ℕ) → Reason → (at : Option Span) → Error
  memory : Error

-- what an error reports holds, unless memory ran out
abbrev pub Reports : Error → Type 0 → Type 0
Reports e P = (e ≡ memory) ⊎ P

-- the error names a rule: it is not that memory ran out
abbrev pub NamesRule : Error → Type 0
NamesRule e = e ≡ memory → ⊥
