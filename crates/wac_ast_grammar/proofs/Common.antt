-- The words of other crates that proofs of this crate cite, given on from one place. It declares nothing.
pub use Rattle.std.proofs.Common.{Bool, Err, List, None, Ok, Option, Result, Some, [], ap, arith, drop, false, inl, inr, length, map, refl, subst, suc, sym, take, true, zero, ℕ, ⊎_elim, ◌++◌, ◌+◌, ◌<◌, ◌↔◌, ◌∙◌, ◌∷◌, ◌≡◌, ◌≤◌}
pub use Rattle.std.proofs.lemmas.Bool.{cases_lt, cond_both, eqb-true, ltb-true}
pub use Rattle.std.proofs.lemmas.List.{append-nil, append_cancel_right, length-append, length-drop, length-take-le}
pub use Rattle.std.specs.List.{AllByRecursion, flat_map}
pub use Rattle.std.specs.Option.{option_map}
pub use Rattle.std.specs.Prelude.{IfOk, ◌==◌}
pub use Rattle.std.specs.Str.{IsCharBoundary, IsUtf8}
pub use Rattle.wac_lexer.specs.Item.{Doc, Item, OnFirst}
pub use Rattle.wac_lexer.specs.Items.{first_item, items, items_from}
pub use Rattle.wac_lexer.specs.Order.{InOrder}
pub use Rattle.wac_lexer.specs.Reading.{Slices, slice}
pub use Rattle.wac_lexer.specs.Span.{Span, end_of, span}
pub use Rattle.wac_lexer.specs.declared.error.Error.{Error}
pub use Rattle.wac_lexer.specs.declared.token.Token.{Token}
