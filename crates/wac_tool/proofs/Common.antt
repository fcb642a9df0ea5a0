-- The words of other crates that proofs of this crate cite, given on from one place. It declares nothing.
pub use Rattle.std.proofs.Common.{Bool, Err, List, None, Ok, OnErr, OnOk, Option, Result, Some, [], add-zero, ap, append_assoc, arith, codes, drop, false, inl, inr, length, length-append, map, refl, rules, string_bytes, subst, suc, sym, take, true, vec_len, ℕ, ⊎_elim, ◌++◌, ◌+◌, ◌-◌, ◌<◌, ◌^◌, ◌∙◌, ◌∷◌, ◌≡◌, ◌≤◌}
pub use Rattle.std.proofs.lemmas.Bool.{and_from, and_parts, eq-eqb, eqb-true}
pub use Rattle.std.proofs.lemmas.List.{at_drop_more, nil_from_length, take-append-drop}
pub use Rattle.std.specs.Prelude.{IfErr, IfOk, IsUtf8, alloc_error, flat_map, nat_eq, ◌&&◌, ◌≢◌, ◌⊎◌}
pub use Rattle.wac_ast.specs.Statements.{document_of}
pub use Rattle.wac_ast_grammar.specs.TextTree.{IsTreeOf}
pub use Rattle.wac_ast_grammar.specs.Tree.{Document}
pub use Rattle.wac_lexer.specs.Characters.{refused}
pub use Rattle.wac_lexer.specs.Items.{items}
pub use Rattle.wac_lexer.specs.Reading.{left}
pub use Rattle.wac_lexer.specs.Span.{Span}
pub use Rattle.wac_resolution.specs.Noted.{mentions_in}
