-- The words of other crates that proofs of this crate cite, given on from one place. It declares nothing.
pub use Rattle.std.proofs.Common.{Bool, IsTrue, List, None, Option, Some, [], ap, append-nil, append_assoc, arith, codes, cond, drop, eq-eqb, eqb-true, false, get_or, inl, inr, is_some, le_refl, length, length-append, ltb-false, map, nat_eq, nat_lt, not, refl, subst, suc, sym, take, true, unwrap_or, zero, ℕ, ◌&&◌, ◌++◌, ◌+◌, ◌-◌, ◌<◌, ◌||◌, ◌↔◌, ◌∙◌, ◌∷◌, ◌≡◌, ◌≢◌, ◌≤◌, ◌⊎◌}
pub use Rattle.std.proofs.lemmas.Option.{slice_get-get_or, slice_get_within}
pub use Rattle.std.proofs.lemmas.Slice.Eq.{bytes_eq-Decides}
pub use Rattle.std.specs.List.{AllByRecursion, cons_option, list_any, position, position_or_len, prefix_len}
pub use Rattle.std.specs.Prelude.{filter_map, flat_map, if◌then◌else◌, option_and_then, option_map, slice_get, slice_set}
pub use Rattle.std.specs.Str.{IsUtf8, bytes_eq}
pub use Rattle.wac_ast_grammar.specs.Leaves.{changed}
pub use Rattle.wac_ast_grammar.specs.Spans.{argument_name_span, extern_name_text}
pub use Rattle.wac_ast_grammar.specs.Tree.{Arguments, Document, EnumCase, EnumDecl, ExportOptions, ExportStatement, Expr, ExternName, ExternType, Field, Flag, FlagsDecl, FuncType, FuncTypeRef, Ident, ImportStatement, ImportType, InstantiationArgument, InstantiationArgumentName, InterfaceItem, ItemTypeDecl, LetStatement, NamedType, OptionalTy, PackageName, PackagePath, PostfixExpr, PrimaryExpr, RecordDecl, ResourceMethod, ResultList, Statement, Ty, TypeAliasKind, TypeDecl, TypeStatement, Types, Use, UseItem, UsePath, VariantCase, VariantDecl, WorldInclude, WorldIncludeItem, WorldItem, WorldItemPath, WorldRef}
pub use Rattle.wac_ast_grammar.specs.Walk.{walk_arguments, walk_enum_case, walk_enum_decl, walk_export_options, walk_export_statement, walk_expr, walk_extern_name, walk_extern_type, walk_field, walk_flag, walk_flags_decl, walk_func_type, walk_func_type_ref, walk_import_statement, walk_import_type, walk_instantiation_argument, walk_instantiation_argument_name, walk_interface_item, walk_item_type_decl, walk_let_statement, walk_named_type, walk_optional_ty, walk_postfix_expr, walk_primary_expr, walk_record_decl, walk_resource_method, walk_result_list, walk_statement, walk_ty, walk_type_alias_kind, walk_type_decl, walk_type_statement, walk_types, walk_use, walk_use_item, walk_use_path, walk_variant_case, walk_variant_decl, walk_world_include, walk_world_include_item, walk_world_item, walk_world_item_path, walk_world_ref}
pub use Rattle.wac_graph.specs.Origin.{Numbering}
pub use Rattle.wac_graph.specs.Package.{Key, same_key, same_version}
pub use Rattle.wac_graph.specs.Packages.{Contents, Packages, package_of}
pub use Rattle.wac_graph.specs.Resources.{resource_entry}
pub use Rattle.wac_graph_types.specs.Entry.{Slot}
pub use Rattle.wac_graph_types.specs.Kind.{Form, a_func, a_resource, a_world, an_interface, component, func, instance}
pub use Rattle.wac_graph_types.specs.Label.{Plain}
pub use Rattle.wac_graph_types.specs.Meaning.{EachFrom, Meaning, Row, done, more}
pub use Rattle.wac_graph_types.specs.Scope.{IsFresh, Named, Scope, StandsFor, look_up, with_named}
pub use Rattle.wac_graph_types.specs.Shape.{IsA, IsNoneOf, alias_type, as_value, borrow_of, contains_borrow, defined_type, defined_value, entry_of, exports_of, func_entry, imports_of, in_order, interface_entry, is_interface_form, is_resource_or_value_form, is_world_form, kind_of, named_results, naming_each, one_child, one_result, own_of, primitive_value, promoted, result_children, row_of, world_entry}
pub use Rattle.wac_graph_types.specs.Steps.{Fails, Steps}
pub use Rattle.wac_graph_types.specs.declared.kind.ExternKind.{ExternKind}
pub use Rattle.wac_graph_types.specs.declared.rules.Reason.{Reason}
pub use Rattle.wac_lexer.specs.Span.{Span, span}
pub use Rattle.wac_printer_layout.specs.Bare.{Keep, bare_document, no_docs}
pub use Rattle.wac_printer_layout.specs.PlainTree.{plain, plain_document}
pub use Rattle.wac_resolution_errors.specs.Error.{Error, Operation, borrow_in_result, duplicate_extern_name, duplicate_instantiation_arg, duplicate_name, duplicate_result, export_conflict, export_requires_as, fill_argument_not_last, import_not_in_target, invalid_alias_type, invalid_extern_name, mismatched_instantiation_arg, missing_component_import, missing_instance_export, missing_instantiation_arg, missing_target_export, not_an_instance, not_world, package_missing_export, package_path_missing_export, spread_export_no_effect, spread_instantiation_no_match, target_mismatch, undefined_name, unknown_package}
