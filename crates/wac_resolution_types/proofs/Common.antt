-- The words of other crates that proofs of this crate cite, given on from one place. It declares nothing.
pub use Rattle.std.proofs.Common.{Bool, List, None, Option, Some, [], ap, append-nil, append_assoc, arith, cond, drop, false, get_or, inl, inr, length, map, refl, rules, subst, suc, sym, take, true, zero, ℕ, ◌++◌, ◌+◌, ◌<◌, ◌||◌, ◌∙◌, ◌∷◌, ◌≡◌}
pub use Rattle.std.proofs.lemmas.List.{length-map, map_push, take_all, take_more}
pub use Rattle.std.proofs.lemmas.Result.{IfOk-weaker, MatchResult-weaker, err_from_is_err_and}
pub use Rattle.std.specs.Prelude.{Box, IfSome, String, Vec, is_some, option_map, string_bytes}
pub use Rattle.std.specs.declared.alloc.Global.{Global}
pub use Rattle.wac_ast_base.specs.Names.{ident_of}
pub use Rattle.wac_ast_grammar.specs.Tree.{Constructor, EnumDecl, FlagsDecl, Ident, ItemTypeDecl, Method, OptionalTy, RecordDecl, ResourceDecl, Ty, Types, VariantDecl, types_from}
pub use Rattle.wac_ast_types.specs.Declarations.{constructor_of, enum_case_of, enum_decl_of, field_of, flag_of, flags_decl_of, func_type_of, method_of, named_type_of, record_decl_of, resource_decl_of, resource_method_of, result_list_of, type_alias_kind_of, type_alias_of, type_decl_of, variant_case_of, variant_decl_of}
pub use Rattle.wac_ast_types.specs.Types.{optional_of, ty_of}
pub use Rattle.wac_graph.specs.Graph.{Parts}
pub use Rattle.wac_graph.specs.Means.{declared_count, entry_means, means, origin_at}
pub use Rattle.wac_graph.specs.Origin.{Numbering}
pub use Rattle.wac_graph_types.specs.Entry.{Slot, case_children, defined_label, named_result_children, optional, tuple_children, value_children}
pub use Rattle.wac_graph_types.specs.Kind.{a_resource, func}
pub use Rattle.wac_graph_types.specs.Label.{Plain}
pub use Rattle.wac_graph_types.specs.Meaning.{EachKind, Meaning, meaning}
pub use Rattle.wac_graph_types.specs.Names.{by_name}
pub use Rattle.wac_graph_types.specs.Scope.{IsFresh, Named, Scope, StandsFor, look_up, with_named}
pub use Rattle.wac_graph_types.specs.Shape.{Uses, alias_type, as_type, cases_mean, contains_borrow, defined_parts, defined_type, defined_value, entry_of, func_entry, items_mean, kind_of, name_children, named_results, naming_each, nothing, one_result, optional_means, own_of, results_mean, types_mean, uses_mean, values_mean}
pub use Rattle.wac_graph_types.specs.Steps.{Fails, Steps}
pub use Rattle.wac_graph_types.specs.Table.{ItemsNamed, Names}
pub use Rattle.wac_graph_types.specs.declared.entry.Entry.{Entry}
pub use Rattle.wac_graph_types.specs.declared.kind.ExternKind.{ExternKind}
pub use Rattle.wac_graph_types.specs.declared.kind.FuncTypeId.{FuncTypeId}
pub use Rattle.wac_graph_types.specs.declared.kind.ItemKind.{ItemKind}
pub use Rattle.wac_graph_types.specs.declared.kind.ResourceId.{ResourceId}
pub use Rattle.wac_graph_types.specs.declared.kind.ValueType.{ValueType}
pub use Rattle.wac_lexer.specs.Span.{Span}
pub use Rattle.wac_resolution_errors.proofs.Reports.{reports}
pub use Rattle.wac_resolution_errors.specs.Error.{Error, borrow_in_result, duplicate_enum_case, duplicate_flag, duplicate_resource_method}
pub use Rattle.wac_resolution_errors.specs.ErrorModel.{error_model}
pub use Rattle.wac_resolution_rules.proofs.StepLaws.{fails_at_map, steps_on_map}
pub use Rattle.wac_resolution_rules.specs.Bodies.{Body, DeclaresIn, HasItem, HasMethod, constructor_name, externs, method_name, name_of_method, static_name, with_count, with_extern, with_resource, with_type}
pub use Rattle.wac_resolution_rules.specs.BrokenBodies.{IsSecondMethod, ItemBroken, MethodBroken, Owner, method_kind}
pub use Rattle.wac_resolution_rules.specs.BrokenDeclarations.{AliasBroken, CaseBroken, FieldBroken, IsRepeatedPart, OptionBroken, TypeAliasBroken, TypeDeclBroken}
pub use Rattle.wac_resolution_rules.specs.BrokenTypes.{FuncBroken, OptionalBroken, ParamBroken, ParamsBroken, ResultBroken, ResultTypeBroken, ResultsBroken, TypeBroken, TypesBroken}
pub use Rattle.wac_resolution_rules.specs.Declarations.{HasCase, HasEnumCase, HasField, HasFlag, HasOption, IsAlias, IsEnum, IsFlags, IsRecord, IsTypeAlias, IsTypeDecl, IsVariant, alone}
pub use Rattle.wac_resolution_rules.specs.Types.{HasOptional, HasParam, HasResult, HasResultType, HasResults, HasType, HaveTypes, IsFuncWith, first_params}
pub use Rattle.wac_resolution_state.proofs.Grown.{child_kept, child_named, each_still_named, grows_on, grows_self, plainly_on, scope_kept, still_named}
pub use Rattle.wac_resolution_state.proofs.Scopes.{memory_model}
pub use Rattle.wac_resolution_state.specs.Bindings.{Bindings, places_of, values_of}
pub use Rattle.wac_resolution_state.specs.Growth.{AddsDefined, AddsFunc, AddsResource, Grows, GrowsPlainly}
pub use Rattle.wac_resolution_state.specs.Named.{KindIs, ValueIs, scope_of}
