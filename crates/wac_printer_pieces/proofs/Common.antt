-- The words of other crates that proofs of this crate cite, given on from one place. It declares nothing.
pub use Rattle.std.proofs.Common.{Bool, Err, List, None, Ok, Result, Some, [], add-one, ap, append-nil, append_assoc, arith, cond, drop, false, get_or, length, length-append, map, refl, replicate, rules, subst, suc, sym, take, true, zero, ℕ, ⊎_elim, ◌*◌, ◌++◌, ◌+◌, ◌-◌, ◌<◌, ◌∙◌, ◌∷◌, ◌≡◌, ◌≤◌}
pub use Rattle.std.proofs.lemmas.Bool.{and_from, and_parts, eq-eqb, eqb-true}
pub use Rattle.std.proofs.lemmas.List.{length-drop, length_push, replicate-append-replicate, take-append-drop, take-replicate, take_all, take_more}
pub use Rattle.std.specs.List.{All, flat_map, list_all, slice_get}
pub use Rattle.std.specs.Prelude.{nat_eq, ◌⊎◌}
pub use Rattle.std.specs.Str.Lines.{lines}
pub use Rattle.wac_printer_layout.specs.Bare.{doc_line}
pub use Rattle.wac_printer_layout.specs.Parts.{doc_layout}
pub use Rattle.wac_printer_layout.specs.Printed.{Piece, blank, deeper, doc, fresh_after, line, text, text_of, times, token}
