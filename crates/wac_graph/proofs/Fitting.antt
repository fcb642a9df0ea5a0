-- Moved numbers are in a usize's range where the table has room.
use Rattle.wac_graph.proofs.Common.{◌+◌, ◌<◌, ◌^◌, ℕ, Option, Some, None, List, [], ◌∷◌, length, arith, IfSome, ItemKind, Entry, named_by, Slot, NamesBefore, EachKind, ItemsNamed}
use Rattle.wac_graph.specs.Moved.{Fits, ItemsFit}

pub kind_fits : (n at : ℕ) (k : ItemKind) → NamesBefore at k → n + at < 2 ^ 64 → Fits n k
kind_fits n at k h room = id (named_by k) h
  where
    id : (x : Option ℕ) → IfSome x (λ i. i < at) → IfSome x (λ i. n + i < 2 ^ 64)
    id None h = tt
    id (Some i) h = omega arith

pub children_fit : (n at : ℕ) (cs : List (Slot × Option ItemKind)) → EachKind (NamesBefore at) cs → n + at < 2 ^ 64 → EachKind (Fits n) cs
children_fit n at [] h room = tt
children_fit n at (c ∷ cs) h room = (one c.1 h.0, children_fit n at cs h.1 room)
  where
    one : (x : Option ItemKind) → IfSome x (NamesBefore at) → IfSome x (Fits n)
    one None h = tt
    one (Some k) h = kind_fits n at k h room

pub items_fit : (n : ℕ) (es : List Entry) (ds : List (List ℕ × ItemKind)) → ItemsNamed es ds → n + length es < 2 ^ 64 → ItemsFit n ds
items_fit n es [] h room = tt
items_fit n es (d ∷ ds) h room = (kind_fits n (length es) d.1 h.0.0 room, items_fit n es ds h.1 room)
