-- The words of other crates that proofs of this crate cite, given on from one place. It declares nothing.
pub use Rattle.std.proofs.Common.{Bool, List, None, Option, Result, Some, [], ap, append-nil, append_assoc, arith, cond, drop, false, fold, get_or, inl, inr, is_none, is_some, length, map, refl, rules, subst, suc, sym, take, true, zero, ℕ, ◌*◌, ◌++◌, ◌+◌, ◌-◌, ◌<◌, ◌||◌, ◌∙◌, ◌∷◌, ◌≡◌, ◌≤◌, ◌⊎◌}
pub use Rattle.std.proofs.Math.Seq.{drop-cons}
pub use Rattle.std.proofs.lemmas.List.{drop_all, get_or-map, length-drop, length-map, map_push, take-append-drop, take_all, take_more}
pub use Rattle.std.proofs.lemmas.Option.{slice_get-map, slice_get_within}
pub use Rattle.std.proofs.lemmas.Result.{IfErr-weaker, IfOk-weaker, err_from_is_err_and, on_ok_weaker}
pub use Rattle.std.specs.List.{AllByRecursion, IsDistinct}
pub use Rattle.std.specs.Prelude.{IfErr, IfOk, IfSome, IsSome, OnOk, String, flat_map, nat_eq, option_and_then, option_map, slice_get, string_bytes, unwrap_or}
pub use Rattle.std.specs.Str.{bytes_eq}
pub use Rattle.std.specs.declared.alloc.Global.{Global}
pub use Rattle.wac_ast_base.specs.Names.{ident_of, package_name_of}
pub use Rattle.wac_ast_statements.specs.Expressions.{argument_name_of, argument_of, expr_of, new_expr_of, postfix_expr_of, primary_expr_of}
pub use Rattle.wac_ast_statements.specs.declared.expr.InstantiationArgument.{size-InstantiationArgument}
pub use Rattle.wac_ast_statements.specs.declared.expr.NewExpr.{size-NewExpr, size_is-NewExpr}
pub use Rattle.wac_ast_grammar.specs.Spans.{argument_name_span}
pub use Rattle.wac_ast_grammar.specs.Tree.{Arguments, Expr, Ident, InstantiationArgumentName, PackageName, PostfixExpr, PrimaryExpr, arguments_from}
pub use Rattle.wac_graph.proofs.Lists.{all_implies, all_more, get_kept, get_last}
pub use Rattle.wac_graph.specs.Graph.{Parts, arguments_of, export_kind, import_kind, parameter_kind, with_argument, with_instantiation}
pub use Rattle.wac_graph.specs.Means.{EntriesMean, OriginsApart, declared_count, entry_means, means, origin_at}
pub use Rattle.wac_graph.specs.Origin.{IsOneToOne, Numbering}
pub use Rattle.wac_graph.specs.Package.{HeldPackage, IsHeld, Key}
pub use Rattle.wac_graph.specs.Packages.{Contents, contents_in, supplied_packages, package_of}
pub use Rattle.wac_graph.specs.declared.node.NodeId.{NodeId}
pub use Rattle.wac_graph_types.proofs.Found.{found_named, world_imports_mean, world_imports_named}
pub use Rattle.wac_graph_types.proofs.Rows.{none_within}
pub use Rattle.wac_graph_types.proofs.Shapes.{items_found}
pub use Rattle.wac_graph_types.specs.Meaning.{Meaning, meaning, of_kind}
pub use Rattle.wac_graph_types.specs.Names.{by_name}
pub use Rattle.wac_graph_types.specs.Readings.{interface_exports, world_imports}
pub use Rattle.wac_graph_types.specs.Scope.{IsFresh, Named, StandsFor, look_up, with_named}
pub use Rattle.wac_graph_types.specs.Shape.{entry_of, exports_of, imports_of, items_mean}
pub use Rattle.wac_graph_types.specs.Steps.{Fails, Steps}
pub use Rattle.wac_graph_types.specs.Table.{EachEntryNamed, Names}
pub use Rattle.wac_graph_types.specs.declared.entry.Entry.{Entry}
pub use Rattle.wac_graph_types.specs.declared.kind.InterfaceId.{InterfaceId}
pub use Rattle.wac_graph_types.specs.declared.kind.ItemKind.{ItemKind}
pub use Rattle.wac_graph_types.specs.declared.kind.WorldId.{WorldId}
pub use Rattle.wac_graph_types.specs.declared.rules.Reason.{Reason}
pub use Rattle.wac_lexer.specs.Span.{Span}
pub use Rattle.wac_resolution_errors.proofs.Reports.{if_reports, reports}
pub use Rattle.wac_resolution_errors.specs.Error.{Error, Reports, duplicate_instantiation_arg, missing_instantiation_arg, spread_instantiation_no_match}
pub use Rattle.wac_resolution_errors.specs.ErrorModel.{error_model}
pub use Rattle.wac_resolution_state.proofs.Composed.{composition_expands, composition_instance, grows_more, grows_none, grows_on, instance_given, instance_with, next_is, sound_stands, still_stand, still_there}
pub use Rattle.wac_resolution_state.proofs.Instances.{export_meant, is_instance, no_instance}
pub use Rattle.wac_resolution_state.proofs.Roots.{agrees_expands, agrees_nodes, fresh_read, kind_means, node_is, number_fresh}
pub use Rattle.wac_resolution_state.specs.Accesses.{AccessSteps, AliasStep}
pub use Rattle.wac_resolution_state.specs.NodeGrowth.{GrowsNodes}
pub use Rattle.wac_resolution_state.specs.Instances.{IsInstance}
pub use Rattle.wac_resolution_state.specs.Nodes.{NodesStand, composition_of, kind_in, node_of}
pub use Rattle.wac_resolution_state.specs.Root.{Agrees, NodeIs, composed, numbers_of}
pub use Rattle.wac_resolution_state.specs.declared.root.Root.{Root}
pub use Rattle.wac_resolution_state.specs.Context.{context_of, packages_in}
pub use Rattle.wac_resolution_state.specs.Expands.{AllSupplied, Expands, IsSuppliedAs, Loads}
pub use Rattle.wac_resolution_state.specs.declared.context.Context.{Context}
pub use Rattle.wac_resolution_rules.specs.BrokenExpressions.{AccessBroken, ArgumentBroken, ArgumentsBroken, IsFillNotLast, IsGivenAlready, IsUnknownPackage, ReachedAt, SpreadBroken, argument_place, argument_places, own_places, spread_places}
pub use Rattle.wac_resolution_rules.specs.Composition.{Composition, Node, kind_at}
pub use Rattle.wac_resolution_rules.specs.Expressions.{Accesses, At, Fits, Gives, GivesOne, Giving, Instantiates, IsComplete, IsEmpty, Spreads, alias_at, at, given_too, has_fill, if_imported, instance_id, is_fill, left_out, name_inferred, name_meant, nothing_given, own_name, spread_from, spread_of, spread_step, spreads_of}
pub use Rattle.wac_resolution_rules.specs.Find.{find_name, names_of}
pub use Rattle.wac_resolution_rules.specs.Given.{Given, Rules, imports_in, key_named, rules_of}
pub use Rattle.wac_resolution_rules.specs.Kinds.{instance_of}
pub use Rattle.wac_resolution_rules.specs.Nodes.{instance_at, next_of, node_at, with_instance}
pub use Rattle.wac_resolution_state.proofs.Bound.{read_found}
