-- The words of other crates that proofs of this crate cite, given on from one place. It declares nothing.
pub use Rattle.std.proofs.Common.{Bool, Bor, List, None, Option, Some, [], ap, arith, cond, drop, false, get_or, inl, inr, is_some, length, map, not, refl, reverse, rules, subst, suc, sym, take, true, zero, ℕ, ◌&&◌, ◌++◌, ◌+◌, ◌-◌, ◌<◌, ◌==◌, ◌||◌, ◌∙◌, ◌∷◌, ◌≡◌, ◌≢◌, ◌≤◌, ◌⊎◌}
pub use Rattle.std.proofs.lemmas.List.{append_assoc, drop_all, drop_more, get_or-map, length-drop, length-map, length-take, map_push, reverse-append, reverse-reverse, take-append-drop, take_all, take_more}
pub use Rattle.std.proofs.lemmas.Option.{get_or_from_slice_get, slice_get-get_or, slice_get-map, slice_get_cases, slice_get_within}
pub use Rattle.std.proofs.lemmas.Result.{IfErr-weaker, IfOk-weaker, err_from_is_err_and}
pub use Rattle.std.specs.List.{AllByRecursion, before_first, join_with_byte, list_any, position, prefix_len, slice_split}
pub use Rattle.std.specs.Map.{lookup}
pub use Rattle.std.specs.Prelude.{IfErr, IfOk, IfSome, IsSome, MatchOption, Result, String, alloc_error, filter_map, option_and_then, option_map, slice_get, slice_set, string_bytes, unwrap_or}
pub use Rattle.std.specs.Str.{bytes_eq}
pub use Rattle.std.specs.declared.alloc.Global.{Global}
pub use Rattle.wac_ast_base.specs.Names.{ident_of, package_path_of}
pub use Rattle.wac_ast_grammar.specs.Segments.{after, located, package_name_span, segment_spans}
pub use Rattle.wac_ast_grammar.specs.Tree.{Ident, PackagePath, PostfixExpr}
pub use Rattle.wac_ast_statements.specs.Expressions.{postfix_expr_of}
pub use Rattle.wac_ast_uses.specs.Uses.{use_path_of, world_ref_of}
pub use Rattle.wac_graph.proofs.Keys.{keys_same}
pub use Rattle.wac_graph.proofs.Lists.{all_implies, all_more, get_kept, get_last}
pub use Rattle.wac_graph.specs.Graph.{Parts, export_kind}
pub use Rattle.wac_graph.specs.Means.{EntriesMean, KeepsKinds, declared_count, entry_means, means, origin_at}
pub use Rattle.wac_graph.specs.Origin.{Numbering, declared}
pub use Rattle.wac_graph.specs.Package.{HeldPackage, IsHeld, Key, key_of, moved_package, package_keyed, same_key, same_version}
pub use Rattle.wac_graph.specs.Packages.{Contents, contents_in, contents_of, supplied_packages, package_of}
pub use Rattle.wac_graph.specs.Readings.{held_of}
pub use Rattle.wac_graph.specs.Sound.{IsPlaced, IsSound, IsSoundNode, imports_from}
pub use Rattle.wac_graph.specs.declared.node.NodeId.{NodeId}
pub use Rattle.wac_graph_types.proofs.Shapes.{items_found, word_is}
pub use Rattle.wac_graph_types.specs.Entry.{Slot, alias_children, children, sort_of}
pub use Rattle.wac_graph_types.specs.Growth.{KeepsNames}
pub use Rattle.wac_graph_types.specs.Meaning.{EachKind, Meaning, node, of_child, of_kind, row}
pub use Rattle.wac_graph_types.specs.Package.{PackageParts}
pub use Rattle.wac_graph_types.specs.Readings.{as_interface, instance_exports, interface_exports}
pub use Rattle.wac_graph_types.specs.Scope.{IsFresh, Named, Scope, StandsFor, look_up, with_named}
pub use Rattle.wac_graph_types.specs.Shape.{described, export_of, exports_of, id_of, items_mean}
pub use Rattle.wac_graph_types.specs.Table.{EachEntryNamed, ItemsNamed, Names}
pub use Rattle.wac_graph_types.specs.declared.kind.InterfaceId.{InterfaceId}
pub use Rattle.wac_graph_types.specs.declared.kind.ItemKind.{ItemKind}
pub use Rattle.wac_graph_types.specs.declared.kind.ResourceId.{ResourceId}
pub use Rattle.wac_lexer.specs.Span.{Span}
pub use Rattle.wac_resolution_errors.proofs.Reports.{if_reports, reports}
pub use Rattle.wac_resolution_errors.specs.Error.{Error, Operation, Reports, duplicate_name, missing_instance_export, not_an_instance, package_missing_export, package_path_missing_export, unknown_package}
pub use Rattle.wac_resolution_errors.specs.ErrorModel.{operation_of, error_model}
pub use Rattle.wac_resolution_rules.proofs.StepLaws.{fails_at, steps_on}
pub use Rattle.wac_resolution_rules.specs.BrokenBodies.{ForeignPathBroken, IsNoExport, IsNoPackageExport, OwnPathBroken, PathBroken, StandsAt, UsePathBroken, last_of, path_broken}
pub use Rattle.wac_resolution_rules.specs.BrokenTypes.{IsUndefined}
pub use Rattle.wac_resolution_rules.specs.Composition.{Composition, Node, NodeForm, aliased, definition, first_name, imported, kind_at, named_at, root_scope, with_export, with_node, with_resources}
pub use Rattle.wac_resolution_rules.specs.Expressions.{Accesses, accessed, alias_at, at, instance_id, own_name}
pub use Rattle.wac_resolution_rules.specs.Find.{after_last_slash, find_name, is_short_for, long_names, names_of, only_one}
pub use Rattle.wac_resolution_rules.specs.Kinds.{instance_of}
pub use Rattle.wac_resolution_rules.specs.Nodes.{alias_in, alias_name, alias_number, import_name, import_of, imports, is_alias_of, next_of, node_at, with_alias, with_instance}
pub use Rattle.wac_resolution_rules.specs.Paths.{IsMember, LeadsFrom, LeadsTo, UseNames, WorldNames, beginning_of, key_of_path, segments_of}
