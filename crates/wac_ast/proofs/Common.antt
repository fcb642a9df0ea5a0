-- The words of other crates that proofs of this crate cite, given on from one place. It declares nothing.
pub use Rattle.std.proofs.Common.{Err, List, None, Ok, Result, [], ap, false, inl, inr, length, map, refl, sym, ℕ, ◌++◌, ◌<◌, ◌∙◌, ◌∷◌, ◌≡◌}
pub use Rattle.std.proofs.lemmas.List.{append-nil, map_push}
pub use Rattle.std.specs.Prelude.{IfErr, IfOk, MatchResult, OnOk, alloc_error}
pub use Rattle.wac_ast_base.proofs.Lookaheads.{looks, peeks_met, peeks_on}
pub use Rattle.wac_ast_base.proofs.Loops.{SoFar, star_ends, star_fails, star_goes_on, statements_star}
pub use Rattle.wac_ast_base.specs.Answer.{End, Gives, final_span, has_more, told_in}
pub use Rattle.wac_ast_base.specs.declared.error.Error.{Error}
pub use Rattle.wac_ast_grammar.specs.Grammar.{Derives, document, statement, statements, type_statement}
pub use Rattle.wac_ast_grammar.specs.Reading.{read}
pub use Rattle.wac_ast_grammar.specs.Tree.{Document}
pub use Rattle.wac_lexer.specs.Item.{Item}
pub use Rattle.wac_lexer.specs.Items.{items}
pub use Rattle.wac_lexer.specs.Reading.{Reading, left}
pub use Rattle.wac_lexer.specs.Span.{Span, span}
