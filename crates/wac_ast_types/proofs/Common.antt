-- The words of other crates that proofs of this crate cite, given on from one place. It declares nothing.
pub use Rattle.std.proofs.Common.{Bool, Err, List, Ok, Result, Some, [], ap, arith, inl, inr, length, map, refl, subst, true, ◌*◌, ◌++◌, ◌+◌, ◌<◌, ◌∙◌, ◌∷◌, ◌≡◌, ◌≤◌, ◌⊎◌}
pub use Rattle.wac_ast_base.proofs.Exits.{Stops}
pub use Rattle.wac_ast_base.proofs.Lists.{ListSoFar, body_fails, closed_by, closed_fails, comma_list, filled_ends, item_fails, item_less, item_missing, item_there, list_closed, list_goes_on, list_open, moved_end, never_fails, same_fails, so_far_fails, step_fails, token_less}
pub use Rattle.wac_ast_base.proofs.Lookaheads.{TriedSoFar, looks, looks_fail, looks_on, none_found, peeks_met, peeks_on, peeks_one, tests, tries_end, tries_found, tries_on}
pub use Rattle.wac_ast_base.proofs.Loops.{fails_bind}
pub use Rattle.wac_ast_base.proofs.Optional.{optional_there, optional_token, same}
pub use Rattle.wac_ast_base.proofs.Yields.{Yields}
pub use Rattle.wac_ast_base.specs.Answer.{End, Fails, Gives, TakesOptional, end_of_input, first_item, has_more}
pub use Rattle.wac_ast_base.specs.Pieces.{GivesPart}
pub use Rattle.wac_ast_base.specs.declared.error.Error.{Error}
pub use Rattle.wac_ast_grammar.proofs.Fixed.{read_is, takes_some}
pub use Rattle.wac_ast_grammar.proofs.Ranks.{measure}
pub use Rattle.wac_ast_grammar.specs.Grammar.{Grammar, Listed, Parts, Sym, TreeOf, borrow_type, build, constructor, docs, docs_of, enum_case, enum_decl, field, flag, flags_decl, func_type, func_type_ref, identifier, is_there, item_type_decl, method, named_type, optional, record_decl, resource_decl, resource_method, result_list, results_of, then, token, type_alias, type_alias_kind, type_decl, variant_case, variant_decl}
pub use Rattle.wac_ast_grammar.specs.Reading.{Stop, at_one_of, begins, built, can, mapped, pair_with, read, read_in, read_token, refuse, two}
pub use Rattle.wac_ast_grammar.specs.Tokens.{at, is_token}
pub use Rattle.wac_ast_grammar.specs.Tree.{Ident, NamedType, OptionalTy, ResultList, Ty, Types, join, types_from}
pub use Rattle.wac_lexer.specs.Item.{Doc, Item, after_first_item, next_token}
pub use Rattle.wac_lexer.specs.Reading.{Reading, left}
pub use Rattle.wac_lexer.specs.Span.{Span}
pub use Rattle.wac_lexer.specs.declared.token.Token.{Token}
