-- The words of other crates that proofs of this crate cite, given on from one place. It declares nothing.
pub use Rattle.std.proofs.Common.{Bool, Err, List, None, Ok, Option, Result, Some, [], ap, append-nil, append_assoc, arith, codes, cond, drop, false, filter, get_or, inl, inr, length, map, min, refl, reverse, subst, suc, sym, take, true, zero, zero-add, ℕ, ⊎_elim, ◌++◌, ◌+◌, ◌-◌, ◌<◌, ◌∙◌, ◌∷◌, ◌≡◌, ◌≤◌}
pub use Rattle.std.proofs.lemmas.Bool.{and_parts, cases_lt, cond_both, eq-eqb, eqb-true, false≢true, le-leb, leb-true, lt-leb, ltb-false, ltb-true, ne_eqb, or_cases, or_parts}
pub use Rattle.std.proofs.lemmas.List.{drop-drop, drop_all, drop_min, drop_more, get_or-drop, get_or-reverse, length-drop, length-map, length-take-le, map-append, take-append-drop}
pub use Rattle.std.proofs.lemmas.List.Sums.{prefix_len_passes, suffix_len-le-length, sum_by-take-drop}
pub use Rattle.std.proofs.lemmas.Str.{IsCharBoundary-before_ascii, IsCharBoundary-end, IsCharBoundary-start, IsUtf8-drop}
pub use Rattle.std.specs.List.{AllByRecursion, list_all, list_any, prefix_len, starts_with, suffix_len, take-map}
pub use Rattle.std.specs.Prelude.{count_by, if◌then◌else◌, is_some, nat_eq, nat_le, nat_lt, not, slice_index, ◌&&◌, ◌==◌, ◌||◌}
pub use Rattle.std.specs.Str.{IsCharBoundary, bytes_eq}
pub use Rattle.wac_lexer.proofs.Boundaries.{ne_zero, part_boundary}
pub use Rattle.wac_lexer.proofs.Followed.{no_comment, part_by}
pub use Rattle.wac_lexer.proofs.Standing.{blank_follows, stands_alone, walk_follows}
pub use Rattle.wac_lexer.proofs.Texts.{bytes_eq_is}
pub use Rattle.wac_lexer.proofs.Unfolded.{before_others, item_is, items_end, items_none, items_some, made, start_of}
pub use Rattle.wac_lexer.specs.Characters.{refused}
pub use Rattle.wac_lexer.specs.Comments.{begins, after, closes, gap, is_blank, opens, part_len}
pub use Rattle.wac_lexer.specs.Follow.{Follows}
pub use Rattle.wac_lexer.specs.Item.{NextToken, Item, OnFirst, after_first_item, next_token}
pub use Rattle.wac_lexer.specs.Items.{fault_of, first_char_len, first_item, items, items_upto, with_fault}
pub use Rattle.wac_lexer.specs.Reading.{Nexts, Reading, left, slice}
pub use Rattle.wac_lexer.specs.Span.{Span, end_of, span}
pub use Rattle.wac_lexer.specs.Tokens.{InTable, IsToken, longest_token, token_of}
pub use Rattle.wac_lexer.specs.declared.error.Error.{Error}
pub use Rattle.wac_lexer.specs.declared.token.Token.{Token}
