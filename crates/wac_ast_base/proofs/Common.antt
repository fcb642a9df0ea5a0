-- The words of other crates that proofs of this crate cite, given on from one place. It declares nothing.
pub use Rattle.std.proofs.Common.{Bool, Bor, Err, List, MatchOption, None, Ok, Option, Result, Some, [], ap, append_assoc, arith, codes, cond, drop, eq-eqb, false, if◌then◌else◌, inl, inr, length, length-append, lit<, ltb, map, min, ne_eqb, not, refl, rules, slice_set, subst, suc, take, true, zero, ℕ, ⊎_elim, ◌++◌, ◌+◌, ◌-◌, ◌<◌, ◌^◌, ◌||◌, ◌∙◌, ◌∷◌, ◌≡◌, ◌≤◌, ◌⊎◌}
pub use Rattle.std.proofs.lemmas.Bool.{cases_lt, cond_both, ltb-true}
pub use Rattle.std.proofs.lemmas.List.{drop-drop, drop-take, drop_all, drop_more, get_or-take, length-drop, length-take-le, map_push, take-append-le, take-take, take_all}
pub use Rattle.std.proofs.lemmas.List.Sums.{fails_before_first, passes_at_first, position_or_len_is, prefix_len-le-length}
pub use Rattle.std.proofs.lemmas.Result.{err_from_is_err_and}
pub use Rattle.std.proofs.lemmas.Str.Pattern.{strip_prefix_char, strip_suffix_char}
pub use Rattle.std.specs.List.{AllByRecursion, after_first, before_first, count_by, onto_first, position_or_len, slice_split}
pub use Rattle.std.specs.Prelude.{IsErrAnd, alloc_error, unwrap_or}
pub use Rattle.wac_ast_grammar.proofs.Fixed.{read_is, takes_some}
pub use Rattle.wac_ast_grammar.specs.Grammar.{Body, Grammar, Listed, Parts, Sym, TreeOf, argument, docs, either, extern_name, listed, listed_more, not_empty, optional, rule, then, token}
pub use Rattle.wac_ast_grammar.specs.Reading.{Stop, Tried, at_one_of, begins, can, empty, first, follows, mapped, not_fault, other, read, read_in, read_token, refuse, two, version, ◌>>=◌}
pub use Rattle.wac_ast_grammar.specs.Segments.{after, located, package_name_span, segment_spans, segments_from}
pub use Rattle.wac_ast_grammar.specs.Tokens.{at, is_bad, is_token, kind, valid}
pub use Rattle.wac_ast_grammar.specs.Tree.{PackagePath, without_front_quote, without_last_quote, without_percent}
pub use Rattle.wac_ast_grammar.specs.Version.{is_at_sign, is_slash, path_name, path_segments, reads_version, unversioned, version_of}
pub use Rattle.wac_lexer.specs.Item.{Doc, NextToken, Item, OnFirst, after_first_item, doc_of, next_token}
pub use Rattle.wac_lexer.specs.Reading.{Reading, left, shown, slice}
pub use Rattle.wac_lexer.specs.Span.{Span, end_of, span}
pub use Rattle.wac_lexer.specs.declared.token.Token.{Token}
