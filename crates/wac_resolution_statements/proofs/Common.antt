-- The words of other crates that proofs of this crate cite, given on from one place. It declares nothing.
pub use Rattle.std.proofs.Common.{Bool, List, None, Option, Some, [], ap, append-nil, append_assoc, arith, cond, drop, false, get_or, inl, inr, is_none, is_some, length, length-append, map, refl, reverse, rules, subst, suc, sym, take, true, zero, ℕ, ◌++◌, ◌+◌, ◌<◌, ◌==◌, ◌∙◌, ◌∷◌, ◌≡◌}
pub use Rattle.std.proofs.lemmas.List.{get_or-map, length-map, map-append, map_push, reverse-append, take_all, take_more}
pub use Rattle.std.proofs.lemmas.Option.{slice_get-map}
pub use Rattle.std.proofs.lemmas.Result.{IfOk-weaker, err_from_is_err_and}
pub use Rattle.std.specs.List.{AllByRecursion, cons_option}
pub use Rattle.std.specs.Option.{option_or}
pub use Rattle.std.specs.Prelude.{Err, IfErr, IfSome, IsSome, Ok, OnOk, Result, String, filter, filter_map, flat_map, option_and_then, option_map, slice_get, string_bytes, unwrap_or}
pub use Rattle.std.specs.Str.{bytes_eq}
pub use Rattle.std.specs.declared.alloc.Global.{Global}
pub use Rattle.wac_ast_base.specs.Names.{ident_of, package_path_of}
pub use Rattle.wac_ast_grammar.specs.Tree.{ExportOptions, ExportStatement, Expr, ExternName, Ident, ImportStatement, LetStatement, Statement}
pub use Rattle.wac_ast_statements.specs.Statements.{export_statement_of, let_statement_of}
pub use Rattle.wac_graph.proofs.Lists.{all_implies, all_more, get_kept}
pub use Rattle.wac_graph.specs.Graph.{Parts, arguments_of, export_kind, package_of, plain_node, with_definition, with_import}
pub use Rattle.wac_graph.specs.Means.{EntriesMean, OriginsApart, declared_count, entry_means, means, origin_at}
pub use Rattle.wac_graph.specs.Node.{sort_of}
pub use Rattle.wac_graph.specs.Numbers.{numbers}
pub use Rattle.wac_graph.specs.Origin.{IsOneToOne, Numbering}
pub use Rattle.wac_graph.specs.Package.{HeldPackage, IsHeld, Key}
pub use Rattle.wac_graph.specs.Sound.{IsSound, NamesNodes, imports_from}
pub use Rattle.wac_graph.specs.declared.node.NodeId.{NodeId}
pub use Rattle.wac_graph_types.proofs.Found.{found_named, world_exports_mean, world_exports_named, world_imports_mean, world_imports_named}
pub use Rattle.wac_graph_types.proofs.Shapes.{items_found, promoted_is, word_is}
pub use Rattle.wac_graph_types.specs.Meaning.{EachKind, Meaning, meaning, of_kind}
pub use Rattle.wac_graph_types.specs.Names.{by_name}
pub use Rattle.wac_graph_types.specs.Package.{PackageParts}
pub use Rattle.wac_graph_types.specs.Readings.{as_interface, as_world, instance_exports, interface_exports, world_exports, world_imports}
pub use Rattle.wac_graph_types.specs.Scope.{IsFresh, Named, Scope, StandsFor, look_up, with_named}
pub use Rattle.wac_graph_types.specs.Shape.{cons_named, entry_over, exports_of, id_of, imports_of, items_mean, nothing, uses_mean}
pub use Rattle.wac_graph_types.specs.Steps.{Fails, Steps}
pub use Rattle.wac_graph_types.specs.Table.{EachEntryNamed, ItemsNamed, Names}
pub use Rattle.wac_graph_types.specs.declared.entry.Entry.{Entry}
pub use Rattle.wac_graph_types.specs.declared.entry.UsedType.{UsedType}
pub use Rattle.wac_graph_types.specs.declared.kind.InterfaceId.{InterfaceId}
pub use Rattle.wac_graph_types.specs.declared.kind.ItemKind.{ItemKind}
pub use Rattle.wac_graph_types.specs.declared.kind.WorldId.{WorldId}
pub use Rattle.wac_graph_types.specs.declared.rules.Reason.{Reason}
pub use Rattle.wac_lexer.specs.Span.{Span}
pub use Rattle.wac_resolution_errors.proofs.Reports.{if_reports, reports}
pub use Rattle.wac_resolution_errors.specs.Error.{Error, Operation, Reports, declaration_conflict, duplicate_extern_name, export_conflict, export_requires_as, import_not_in_target, missing_target_export, spread_export_no_effect, target_mismatch}
pub use Rattle.wac_resolution_errors.specs.ErrorModel.{error_model}
pub use Rattle.wac_resolution_expressions.specs.Growth.{ExprBreaks, ExprStep, Extends, given_in}
pub use Rattle.wac_resolution_rules.specs.BrokenBodies.{help_unless}
pub use Rattle.wac_resolution_rules.specs.BrokenStatements.{ExportAsBroken, ExportOneBroken, ExportOptionsBroken, ImportNameBroken, IsExportConflict, IsExportedAlready, IsImportedAlready, IsInvalidName, IsNotWorld, IsUnnamed, TargetWorldBroken, placed_imports}
pub use Rattle.wac_resolution_rules.specs.BrokenWorlds.{IsBound, IsExported}
pub use Rattle.wac_resolution_rules.specs.Composition.{Composition, binding, definition, imported, kind_at, root_scope, with_export, with_node, with_resources}
pub use Rattle.wac_resolution_rules.specs.Expressions.{At, alias_at, at, instance_id, own_name}
pub use Rattle.wac_resolution_rules.specs.Find.{names_of}
pub use Rattle.wac_resolution_rules.specs.Given.{Given, Rules, rules_of}
pub use Rattle.wac_resolution_rules.specs.Kinds.{world_of}
pub use Rattle.wac_resolution_rules.specs.Nodes.{import_name, import_of, imports, is_definition, next_of, node_at}
pub use Rattle.wac_resolution_rules.specs.Paths.{LeadsTo}
pub use Rattle.wac_resolution_rules.specs.Places.{Places, more_at, names_at, places_after}
pub use Rattle.wac_resolution_rules.specs.Spans.{export_span, expr_span, import_span}
pub use Rattle.wac_resolution_rules.specs.Statements.{ExportsAs, ExportsBy, ExportsOne, definition_bound, if_definition, item_id, unexported, unnamed_export}
pub use Rattle.wac_resolution_rules.specs.Target.{ExportMet, ImportAllowed, IsAllowed, all_imports, allowed, open_imports, under_id, used_by, used_under, uses_of_import, uses_of_world}
pub use Rattle.wac_resolution_state.proofs.Composed.{composition_defines, composition_expands, composition_imports, grows_more, next_is, sound_stands}
pub use Rattle.wac_resolution_state.proofs.NodeNames.{imported_where, interface_id_is}
pub use Rattle.wac_resolution_state.proofs.Roots.{agrees_nodes, bound_there, fresh_read, items_named, kind_means, number_fresh, place_fresh, scope_agrees}
pub use Rattle.wac_resolution_state.specs.Bindings.{Bindings, values_of}
pub use Rattle.wac_resolution_state.specs.Context.{packages_in}
pub use Rattle.wac_resolution_state.specs.Expands.{AllSupplied, Expands, IsSuppliedAs}
pub use Rattle.wac_resolution_state.specs.Instances.{IsInstance, written_id}
pub use Rattle.wac_resolution_state.specs.Nodes.{NodesStand, Stands, composition_of, form_in, instance_form, kind_in, node_of}
pub use Rattle.wac_resolution_state.specs.Root.{Agrees, Binds, EachAgrees, composed, numbers_of, places}
pub use Rattle.wac_resolution_state.specs.declared.context.Context.{Context}
pub use Rattle.wac_resolution_state.specs.declared.root.Root.{Root}
