-- The words of other crates that proofs of this crate cite, given on from one place. It declares nothing.
pub use Rattle.std.proofs.Common.{Bool, Err, List, None, Ok, Option, Result, Some, [], ap, append-nil, append_assoc, arith, cond, drop, false, get_or, inl, inr, is_some, length, ltb, map, refl, subst, suc, sym, true, zero, ℕ, ◌++◌, ◌+◌, ◌<◌, ◌^◌, ◌||◌, ◌∙◌, ◌∷◌, ◌≡◌, ◌≤◌, ◌⊎◌}
pub use Rattle.std.specs.Prelude.{IfErr, IfOk, IfSome, OnErr, OnOk, String, option_and_then, option_map, slice_get}
pub use Rattle.wac_ast.specs.Statements.{document_of, statement_of}
pub use Rattle.wac_ast_grammar.specs.TextTree.{IsTreeOf}
pub use Rattle.wac_graph.proofs.Keys.{keys_same, other_key}
pub use Rattle.wac_graph.specs.Copied.{AreCopies, IsGrown, IsGrownBy, MeansTheSame}
pub use Rattle.wac_graph.specs.Package.{Key, key_of, same_key}
pub use Rattle.wac_graph.specs.declared.package_key.PackageKey.{PackageKey}
pub use Rattle.wac_graph_types.specs.Growth.{KeepsMeanings}
pub use Rattle.wac_graph_types.specs.Names.{by_name}
pub use Rattle.wac_graph_types.specs.Package.{PackageParts}
pub use Rattle.wac_graph_types.specs.Scope.{IsFresh, Named}
pub use Rattle.wac_graph_types.specs.declared.entry.Entry.{Entry}
pub use Rattle.wac_graph_types.specs.declared.kind.ItemKind.{ItemKind}
pub use Rattle.wac_graph_types.specs.declared.kind.WorldId.{WorldId}
pub use Rattle.wac_resolution_state.proofs.Keys.{keyed_found}
