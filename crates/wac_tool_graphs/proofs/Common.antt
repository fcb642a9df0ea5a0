-- The words of other crates that proofs of this crate cite, given on from one place. It declares nothing.
pub use Rattle.std.proofs.Common.{Bool, List, None, Option, Some, [], ap, arith, cond, false, inl, inr, length, refl, subst, suc, sym, true, zero, ℕ, ◌++◌, ◌+◌, ◌<◌, ◌∙◌, ◌∷◌, ◌≡◌, ◌≢◌, ◌≤◌}
pub use Rattle.std.proofs.Math.Nat.{eq-or-lt_of_le}
pub use Rattle.std.proofs.lemmas.Bool.{eqb-true}
pub use Rattle.std.proofs.lemmas.Option.{slice_get_past, slice_get_within}
pub use Rattle.std.specs.Prelude.{IfSome, IsTrue, is_ok, nat_eq, slice_get}
pub use Rattle.wac_graph_types.proofs.Rows.{stands}
pub use Rattle.wac_graph_types.specs.Entry.{Slot, children, label}
pub use Rattle.wac_graph_types.specs.Label.{dangling, plain}
pub use Rattle.wac_graph_types.specs.Meaning.{ChildrenBefore, IsEarlier, IsOneToOne, IsResource, Meaning, NamesBefore, done, meaning_at, named, node, of_child, row}
pub use Rattle.wac_graph_types.specs.Shape.{entry_over}
pub use Rattle.wac_graph_types.specs.declared.entry.Entry.{Entry}
pub use Rattle.wac_graph_types.specs.declared.kind.ItemKind.{ItemKind}
