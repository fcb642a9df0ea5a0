-- Kinds in which each name is that of one item, as in those of a table.
use Rattle.std.specs.Prelude.{◌≡◌, ℕ, List, [], ◌∷◌, Option, Some}
use Rattle.wac_graph_types.specs.Entry.{Slot}
use Rattle.wac_graph_types.specs.Scope.{Named, look_up}
use Rattle.wac_graph_types.specs.Shape.{slot_import, slot_export}
use Rattle.wac_component_rules.specs.Seen as view
use Rattle.wac_component_rules.specs.Seen.{Seen, What, Items, listed, picked}

-- among all, the name of each of these items is its own
abbrev pub OwnNames : Named Seen → Named Seen → Type 0
OwnNames all [] = Unit {0}
OwnNames all (e ∷ es) = (look_up e.0 all ≡ Some e.1) × OwnNames all es

abbrev pub HasOwnNames : (Slot → Option (List ℕ)) → Items → Type 0
HasOwnNames pick xs = OwnNames (picked pick (listed xs)) (picked pick (listed xs))

abbrev mutual
  -- at each depth the names of imports are their own, and so are those of exports
  pub IsClear : Seen → Type 0
  IsClear (view.a_kind f w) = IsClearOf w
  IsClear view.not_given = Unit {0}

  pub IsClearOf : What → Type 0
  IsClearOf view.nothing = Unit {0}
  IsClearOf (view.made_of p xs) = AreClear xs
  IsClearOf (view.named_resource n) = Unit {0}
  IsClearOf (view.an_interface xs) = AreClear xs × HasOwnNames slot_export xs
  IsClearOf (view.a_world xs) = AreClear xs × HasOwnNames slot_import xs × HasOwnNames slot_export xs

  pub AreClear : Items → Type 0
  AreClear view.end = Unit {0}
  AreClear (view.item s x xs) = IsClear x × AreClear xs
