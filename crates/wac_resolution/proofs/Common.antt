-- The words of other crates that proofs of this crate cite, given on from one place. It declares nothing.
pub use Rattle.std.proofs.Common.{Bool, Decides, Err, IfOk, List, None, Ok, Option, Result, Some, [], ap, append-nil, append_assoc, arith, cond, false, filter, flat_map, get_or, inl, inr, is_some, length, map, not, refl, rules, subst, suc, sym, take, true, zero, ℕ, ◌&&◌, ◌++◌, ◌+◌, ◌<◌, ◌||◌, ◌↔◌, ◌∙◌, ◌∷◌, ◌≡◌, ◌≤◌, ◌⊎◌}
pub use Rattle.std.proofs.lemmas.Result.{IfErr-weaker, IfOk-weaker, err_from_is_err_and, on_ok_weaker}
pub use Rattle.std.proofs.lemmas.Slice.Eq.{bytes_eq-Decides}
pub use Rattle.std.specs.List.{AllByRecursion, cons_option, list_any}
pub use Rattle.std.specs.Map.{keys_of, lookup}
pub use Rattle.std.specs.Prelude.{IfErr, OnOk, String, filter_map, if◌then◌else◌, option_map, slice_set, string_bytes}
pub use Rattle.std.specs.Str.{bytes_eq}
pub use Rattle.wac_ast.specs.Statements.{document_of, statement_of, type_statement_of}
pub use Rattle.wac_ast_base.specs.Names.{ident_of, package_name_of, package_path_of}
pub use Rattle.wac_ast_grammar.specs.Tree.{Arguments, Document, FuncType, Ident, ImportStatement, ImportType, InlineInterface, InterfaceDecl, PackagePath, TypeDecl, TypeStatement, WorldDecl, arguments_from}
pub use Rattle.wac_ast_grammar.specs.Version.{version_text}
pub use Rattle.wac_ast_statements.specs.Expressions.{argument_of, arguments_of_row, new_expr_of, primary_expr_of}
pub use Rattle.wac_ast_types.specs.Declarations.{func_type_of, type_decl_of}
pub use Rattle.wac_ast_worlds.specs.Worlds.{import_statement_of, import_type_of, inline_interface_of, interface_decl_of, interface_item_of, world_decl_of, world_item_of}
pub use Rattle.wac_graph.proofs.Lists.{all_implies, get_last}
pub use Rattle.wac_graph.specs.Graph.{Parts, empty}
pub use Rattle.wac_graph.specs.Means.{declared_count, entry_means, means}
pub use Rattle.wac_graph.specs.Origin.{IsOneToOne, Numbering}
pub use Rattle.wac_graph.specs.Package.{HeldPackage, Key, key_of, same_key, same_version}
pub use Rattle.wac_graph.specs.Packages.{Contents, Packages, contents_in, contents_of, supplied_packages, package_of}
pub use Rattle.wac_graph.specs.declared.package_key.PackageKey.{PackageKey}
pub use Rattle.wac_graph_types.specs.Kind.{a_world, an_interface, promoted}
pub use Rattle.wac_graph_types.specs.Meaning.{Meaning}
pub use Rattle.wac_graph_types.specs.Package.{PackageParts}
pub use Rattle.wac_graph_types.specs.Scope.{IsFresh, Named, Scope, StandsFor, look_up, with_named}
pub use Rattle.wac_graph_types.specs.Shape.{entry_of, kind_of}
pub use Rattle.wac_graph_types.specs.declared.kind.ItemKind.{ItemKind}
pub use Rattle.wac_lexer.specs.Span.{Span, end_of}
pub use Rattle.wac_resolution_errors.proofs.Reports.{if_reports, reports}
pub use Rattle.wac_resolution_errors.specs.Error.{Error, Reports, memory}
pub use Rattle.wac_resolution_errors.specs.ErrorModel.{error_model}
pub use Rattle.wac_resolution_expressions.specs.Growth.{given_in}
pub use Rattle.wac_resolution_rules.proofs.FirstFailing.{describes_once, fails_at, fails_at_target, first_has_none, leads_composes}
pub use Rattle.wac_resolution_rules.specs.BrokenStatements.{ImportNameBroken, StatementBroken}
pub use Rattle.wac_resolution_rules.specs.BrokenWorlds.{DefinitionBroken, InterfaceBroken, KindBroken, WorldBroken}
pub use Rattle.wac_resolution_rules.specs.Composition.{Composition, Node, binding, definition, first_name, imported, named_at, root_scope, start, with_node, with_resources}
pub use Rattle.wac_resolution_rules.specs.Given.{Given, Rules, rules_of}
pub use Rattle.wac_resolution_rules.specs.Mentions.{IsMentioned, KeyHolds, KeysHold, Mention, argument_mentions, arguments_mentions, expr_mentions, extern_mentions, extern_type_mentions, given_over, import_type_mentions, interface_item_mentions, interface_mentions, is_mentioned, kept, mentions, name_mentions, path_mentions, primary_mentions, statement_mentions, target_mentions, type_mentions, use_path_mentions, world_item_mentions, world_ref_mentions}
pub use Rattle.wac_resolution_rules.specs.Nodes.{import_of, imports, next_of}
pub use Rattle.wac_resolution_rules.specs.Places.{Leads, Placed, Places, more_at, placed_start, places_after}
pub use Rattle.wac_resolution_rules.specs.ResolvedDocument.{DescribeAlike, Describes, FirstClause, FirstFailing, GraphClause, OnlyClause, given_to}
pub use Rattle.wac_resolution_rules.specs.Spans.{import_span}
pub use Rattle.wac_resolution_rules.specs.Statements.{Composes, Imports, name_imported}
pub use Rattle.wac_resolution_rules.specs.TypeStatements.{Defines, declared_id, defining, identifier_of}
pub use Rattle.wac_resolution_rules.specs.Worlds.{IsInterface, IsWorld}
pub use Rattle.wac_resolution_state.proofs.Expanding.{expands_self, grows_expands, supplied_grown}
pub use Rattle.wac_resolution_state.proofs.Roots.{items_named, scope_agrees}
pub use Rattle.wac_resolution_state.proofs.Scopes.{memory_model}
pub use Rattle.wac_resolution_state.specs.Bindings.{Bindings, places_of, values_of}
pub use Rattle.wac_resolution_state.specs.Context.{context_of, packages_in}
pub use Rattle.wac_resolution_state.specs.Expands.{AllSupplied, Found, IsSuppliedAs}
pub use Rattle.wac_resolution_state.specs.Named.{KindIs, scope_of}
pub use Rattle.wac_resolution_state.specs.Nodes.{composition_of}
pub use Rattle.wac_resolution_state.specs.Root.{Agrees, composed, numbers_of, places}
pub use Rattle.wac_resolution_state.specs.declared.context.Context.{Context}
pub use Rattle.wac_resolution_state.specs.declared.root.Root.{Root}
pub use Rattle.wac_resolution_statements.proofs.Results.{if_err, on_ok}
pub use Rattle.wac_resolution_statements.proofs.Standing.{agrees_kept, composed_kept, placed_kept}
pub use Rattle.wac_resolution_statements.specs.Defined.{IsDefined}
pub use Rattle.wac_resolution_statements.specs.Externs.{Under, exported_in, imported_in, places_in}
pub use Rattle.wac_resolution_statements.specs.Statements.{Breaks, Stand, StatementRun, placed_in}
pub use Rattle.wac_resolution_statements.specs.declared.externs.Externs.{Externs}
pub use Rattle.wac_resolution_worlds.specs.Made.{InterfaceMade}
