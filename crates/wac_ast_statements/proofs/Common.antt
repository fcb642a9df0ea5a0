-- The words of other crates that proofs of this crate cite, given on from one place. It declares nothing.
pub use Rattle.std.proofs.Common.{Err, Global, List, Ok, Some, [], ap, arith, length, map, refl, subst, suc, sym, ℕ, ◌*◌, ◌++◌, ◌+◌, ◌-◌, ◌<◌, ◌^◌, ◌∙◌, ◌∷◌, ◌≡◌, ◌≤◌}
pub use Rattle.std.proofs.lemmas.List.{map_push}
pub use Rattle.std.specs.Prelude.{Box, ◌||◌}
pub use Rattle.wac_ast_base.proofs.Lists.{ListSoFar, closed_by, closed_fails, comma_list, item_fails, item_less, item_missing, item_there, list_closed, list_goes_on, moved_end, never_fails, same_fails, so_far_fails, step_fails, token_less}
pub use Rattle.wac_ast_base.proofs.Lookaheads.{alternatives_fail, looks, looks_on, none_found, peeks_on, peeks_one}
pub use Rattle.wac_ast_base.proofs.Loops.{SoFar, fails_bind, postfixes_star, star_ends, star_fails, star_goes_on}
pub use Rattle.wac_ast_base.specs.Lists.{Reads, list_of}
pub use Rattle.wac_ast_base.specs.Lookahead.{looked, told_of, tried}
pub use Rattle.wac_ast_grammar.proofs.Fixed.{read_is, takes_some}
pub use Rattle.wac_ast_grammar.specs.Grammar.{Parts, access_expr, argument, argument_name, arguments, build, expr, identifier, last_span, list_items, named_access_expr, named_argument, nested_expr, new_expr, package_name, postfix_expr, postfix_span, postfixes, primary_expr, primary_span, rule, string, string_of}
pub use Rattle.wac_ast_grammar.specs.Reading.{Stop, at_one_of, begins, can, mapped, other, pair_with, read, read_token, refuse, told}
pub use Rattle.wac_ast_grammar.specs.Tree.{Arguments, Expr, Ident, InstantiationArgument, InstantiationArgumentName, NamedInstantiationArgument, PostfixExpr, PrimaryExpr, arguments_from}
pub use Rattle.wac_lexer.specs.Item.{Item, after_first_item}
pub use Rattle.wac_lexer.specs.Reading.{Reading, left}
pub use Rattle.wac_lexer.specs.Span.{Span, end_of}
