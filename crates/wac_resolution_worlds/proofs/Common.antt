-- The words of other crates that proofs of this crate cite, given on from one place. It declares nothing.
pub use Rattle.indexmap.proofs.MapLemmas.{OnOk-map}
pub use Rattle.std.proofs.Common.{Bool, Bor, List, None, Option, Some, [], ap, append-nil, append_assoc, arith, cond, drop, false, get_or, inl, inr, length, map, refl, rules, subst, suc, sym, take, true, ℕ, ◌++◌, ◌+◌, ◌<◌, ◌∙◌, ◌∷◌, ◌≡◌, ◌⊎◌}
pub use Rattle.std.proofs.lemmas.List.{flat_map_more, get_or-map, length-map, map_push, take-append-drop, take_all, take_more}
pub use Rattle.std.proofs.lemmas.Result.{IfErr-weaker, err_from_is_err_and}
pub use Rattle.std.specs.List.{cons_option, flat_map}
pub use Rattle.std.specs.Prelude.{IfErr, IfOk, OnOk, Result, String, option_and_then, option_map, slice_get, string_bytes, unwrap_or}
pub use Rattle.std.specs.Str.{bytes_eq}
pub use Rattle.std.specs.declared.alloc.Global.{Global}
pub use Rattle.wac_ast_base.specs.Names.{ident_of, package_path_of}
pub use Rattle.wac_ast_grammar.specs.Spans.{world_ref_name, world_ref_span}
pub use Rattle.wac_ast_grammar.specs.Tree.{ExternType, FuncType, FuncTypeRef, Ident, InlineInterface, InterfaceDecl, InterfaceExport, ItemTypeDecl, NamedWorldItem, PackagePath, UsePath, WorldExport, WorldImport, WorldInclude, WorldIncludeItem, WorldItemPath}
pub use Rattle.wac_ast_types.specs.Declarations.{func_type_of, func_type_ref_of, item_type_decl_of}
pub use Rattle.wac_ast_uses.specs.Uses.{use_item_of, use_of, use_path_of, world_include_item_of, world_include_of}
pub use Rattle.wac_ast_worlds.specs.Worlds.{extern_type_of, inline_interface_of, interface_decl_of, interface_export_of, interface_item_of, named_world_item_of, world_export_of, world_import_of, world_item_of, world_item_path_of}
pub use Rattle.wac_graph.specs.Graph.{Parts}
pub use Rattle.wac_graph.specs.Means.{EntriesMean, declared_count, entry_means, means, origin_at}
pub use Rattle.wac_graph.specs.Origin.{Numbering}
pub use Rattle.wac_graph.specs.Package.{Key}
pub use Rattle.wac_graph_types.specs.Entry.{Slot, export_children, import_children, use_children}
pub use Rattle.wac_graph_types.specs.Meaning.{EachKind, Meaning, of_kind}
pub use Rattle.wac_graph_types.specs.Names.{by_name}
pub use Rattle.wac_graph_types.specs.Package.{PackageParts}
pub use Rattle.wac_graph_types.specs.Readings.{as_interface}
pub use Rattle.wac_graph_types.specs.Scope.{IsFresh, Named, Scope, StandsFor, look_up, with_named, without_first}
pub use Rattle.wac_graph_types.specs.Shape.{IsA, IsNoneOf, Uses, entry_of, export_of, exports_of, id_of, imports_of, is_interface_form, is_resource_or_value_form, is_world_form, items_mean, uses_mean}
pub use Rattle.wac_graph_types.specs.Steps.{Fails, Steps}
pub use Rattle.wac_graph_types.specs.Table.{EachEntryNamed, ItemsNamed, Names}
pub use Rattle.wac_graph_types.specs.declared.entry.Entry.{Entry}
pub use Rattle.wac_graph_types.specs.declared.entry.UsedType.{UsedType}
pub use Rattle.wac_graph_types.specs.declared.kind.ExternKind.{ExternKind}
pub use Rattle.wac_graph_types.specs.declared.kind.FuncTypeId.{FuncTypeId}
pub use Rattle.wac_graph_types.specs.declared.kind.InterfaceId.{InterfaceId}
pub use Rattle.wac_graph_types.specs.declared.kind.ItemKind.{ItemKind}
pub use Rattle.wac_graph_types.specs.declared.kind.ValueType.{ValueType}
pub use Rattle.wac_graph_types.specs.declared.kind.WorldId.{WorldId}
pub use Rattle.wac_lexer.specs.Span.{Span}
pub use Rattle.wac_resolution_errors.proofs.Reports.{if_reports, reports}
pub use Rattle.wac_resolution_errors.specs.Error.{Error, Reports, missing_world_include, use_conflict, world_include_conflict}
pub use Rattle.wac_resolution_errors.specs.ErrorModel.{error_model}
pub use Rattle.wac_resolution_rules.proofs.StepLaws.{fails_at_map, steps_more, steps_on_map}
pub use Rattle.wac_resolution_rules.specs.Bodies.{Body, UsesItem, externs, renamed_from, used_as, with_count, with_extern, with_type}
pub use Rattle.wac_resolution_rules.specs.BrokenBodies.{IsConflict, IsNoInterface, IsNoTypeThere, IsNoUsableType, IsUseConflict, ItemBroken, Owner, UseBroken, UseItemBroken, help_unless, of_interface, of_world}
pub use Rattle.wac_resolution_rules.specs.BrokenWorlds.{ExternBroken, ExternTypeBroken, FuncRefBroken, IncludeBroken, InstanceBroken, InterfaceBroken, InterfaceItemBroken, IsIncludeConflict, IsLeftOver, IsNoWorld, IsSecondEntry, TakingBroken, WorldBroken, WorldItemBroken, WorldRefBroken, entry_named, help_of_include, span_of_entry, span_taken}
pub use Rattle.wac_resolution_rules.specs.Includes.{Entries, HasEntry, HasInclude, Included, Takes, TakesNamed, Taking, has_colon, name_taken, with_missing}
pub use Rattle.wac_resolution_rules.specs.Paths.{UseNames}
pub use Rattle.wac_resolution_rules.specs.Places.{at_ident, bound_in_interface, bound_in_interface_item, bound_in_world, bound_in_world_item, used_at}
pub use Rattle.wac_resolution_rules.specs.Spans.{use_path_name}
pub use Rattle.wac_resolution_rules.specs.Worlds.{HasExtern, HasInstance, HasInterfaceItem, HasWorldItem, IsFuncRef, IsInterface, IsWorld, id_or_empty, include_in, includes_of}
pub use Rattle.wac_resolution_state.proofs.Expanding.{expands_on, expands_self, grows_expands, supplied_grown, items_expanded, scope_expanded}
pub use Rattle.wac_resolution_state.proofs.Grown.{grows_self}
pub use Rattle.wac_resolution_state.proofs.Scopes.{memory_model}
pub use Rattle.wac_resolution_state.specs.Bindings.{places_of, values_of}
pub use Rattle.wac_resolution_state.specs.Context.{context_of, packages_in}
pub use Rattle.wac_resolution_state.specs.Expands.{AllSupplied, Expands, Found}
pub use Rattle.wac_resolution_state.specs.Named.{KindIs, scope_of}
pub use Rattle.wac_resolution_types.proofs.Going.{items_break, items_step, none_go}
pub use Rattle.wac_resolution_types.proofs.Lists.{body_kept, body_still, body_with_bound, body_with_kind, extern_fresh, extern_stands, means_with_bound, means_with_kind, places_append}
pub use Rattle.wac_resolution_types.specs.Bodies.{BodyStep, Covers, DeclarationStep, IsBody, UsesNamed, body_in, body_of}
pub use Rattle.wac_resolution_types.specs.Lists.{Lists, kinds_of, lists_of, with_bound, with_kind, with_used}
pub use Rattle.wac_resolution_types.specs.Owners.{owner_of}
