-- The words of other crates that proofs of this crate cite, given on from one place. It declares nothing.
pub use Rattle.std.proofs.Common.{Bool, Err, List, None, Ok, Option, Result, Some, [], add-one, add-zero, add_assoc, ap, append-nil, append_assoc, arith, codes, cond, drop, false, get_or, inl, inr, length, length-append, map, one-add, refl, rules, subst, suc, sym, take, true, zero, zero-add, ℕ, ⊎_elim, ◌&&◌, ◌*◌, ◌++◌, ◌+◌, ◌-◌, ◌<◌, ◌^◌, ◌∙◌, ◌∷◌, ◌≡◌, ◌≢◌, ◌≤◌}
pub use Rattle.std.proofs.Math.Seq.{drop-append_seam, get_or-append_seam, take-add, take-append_seam}
pub use Rattle.std.proofs.lemmas.Bool.{and_from, and_parts, cases_Bool, cases_lt, cond_both, eq-eqb, eqb-false, eqb-true, false≢true, le-leb, leb-true, ltb-true, ne_eqb, not-false, or_cases, or_left, or_right, true≢false}
pub use Rattle.std.proofs.lemmas.List.{drop-append-le, drop-drop, drop_all, get_or-drop, get_or-take, get_or_past, length-drop, length-take-le, length_push, take-append-drop, take-take, take_at, take_more}
pub use Rattle.std.proofs.lemmas.List.Sums.{prefix_len-le-length, prefix_len_stops, sum_by-cons}
pub use Rattle.std.proofs.lemmas.Str.{IsAscii-append, IsCharBoundary-after_ascii, IsCharBoundary-at_seam, IsCharBoundary-before_ascii, IsCharBoundary-end, IsCharBoundary-from_drop, IsCharBoundary-from_rest, IsCharBoundary-past_char, IsCharBoundary-start, IsUtf8-drop, IsUtf8-past_char, chars-nil, chars_past_char, encode_ascii, length-encode}
pub use Rattle.std.specs.Char.{encode_utf8, len_utf8}
pub use Rattle.std.specs.List.{AllByRecursion, concat, list_all, prefix_len}
pub use Rattle.std.specs.Prelude.{if◌then◌else◌, is_none, is_some, nat_eq, nat_le, nat_lt, not, option_map, slice_get, slice_index, sum_by, ◌==◌, ◌||◌, ◌⊎◌}
pub use Rattle.std.specs.Str.{IsAscii, IsCharBoundary, IsUtf8, bytes_eq, chars, encode_utf8_all, trim}
