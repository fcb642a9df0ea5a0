-- Whether a kind may stand where another is expected, a case a kind.
use Rattle.std.specs.Prelude.{ℕ, List, [], ◌∷◌, Option, Some, None, Bool, true, false, ◌&&◌, ◌||◌, not}
use Rattle.std.specs.Str.{bytes_eq}
use Rattle.std.proofs.Math.Bool.{decide}
use Rattle.wac_graph_types.specs.declared.rules.Reason.{Reason}
use Rattle.wac_graph_types.specs.Equality.{meaning_discrete}
use Rattle.wac_graph_types.specs.Kind.{Form, a_resource, a_func, an_interface, a_world, func, instance, component, a_core_module, core_module, a_value, value}
use Rattle.wac_graph_types.specs.Entry.{Slot}
use Rattle.wac_graph_types.specs.Label.{Plain, plain, kind, absent}
use Rattle.wac_graph_types.specs.Meaning.{Meaning, node, done, more}
use Rattle.wac_graph_types.specs.Scope.{Named, look_up}
use Rattle.wac_graph_types.specs.Shape.{slot_import, slot_export}
use Rattle.wac_extern_names.specs.Names.{is_extern_name}
use Rattle.wac_component_rules.specs.Seen as view
use Rattle.wac_component_rules.specs.Seen.{Seen, What, Items, seen, listed, picked}

-- whether two labels of types, two forms, two slots are equal
abbrev pub same_plain : Plain → Plain → Bool
same_plain p q = decide (meaning_discrete (node (plain p) done) (node (plain q) done))

abbrev pub same_form : Form → Form → Bool
same_form f g = same_plain (kind f) (kind g)

abbrev pub same_slot : Slot → Slot → Bool
same_slot s t = decide (meaning_discrete (node (plain absent) (more s (node (plain absent) done) done)) (node (plain absent) (more t (node (plain absent) done) done)))

-- types, as items of their own
abbrev pub is_type : Form → Bool
is_type a_resource = true
is_type a_func = true
is_type an_interface = true
is_type a_world = true
is_type (a_core_module n) = true
is_type (a_value v) = true
is_type func = false
is_type instance = false
is_type component = false
is_type (core_module n) = false
is_type (value v) = false

-- each expected item is there, and fits: the given ones, each with what it fits
abbrev pub found_fits : Option (Seen → Bool) → Seen → Bool
found_fits None y = false
found_fits (Some fit) y = fit y

abbrev pub each_found : Named (Seen → Bool) → Named Seen → Bool
each_found given [] = true
each_found given (e ∷ expected) = found_fits (look_up e.0 given) e.1 && each_found given expected

-- the same, from the expected ones, each with what fits it
abbrev pub fits_found : (Seen → Bool) → Option Seen → Bool
fits_found fit None = false
fits_found fit (Some x) = fit x

abbrev pub each_taken : Named (Seen → Bool) → Named Seen → Bool
each_taken [] given = true
each_taken (e ∷ expected) given = fits_found e.1 (look_up e.0 given) && each_taken expected given

abbrev mutual
  -- the first may stand where the second is expected: both are of one form, and what they are of fits; types both ways
  pub fits : Seen → Seen → Bool
  fits (view.a_kind f w) (view.a_kind g v) = same_form f g && (stands w v && (not (is_type f) || serves w v))
  fits (view.a_kind f w) view.not_given = false
  fits view.not_given (view.a_kind g v) = false
  fits view.not_given view.not_given = true

  -- the second may stand where the first is expected
  pub accepts : Seen → Seen → Bool
  accepts (view.a_kind f w) (view.a_kind g v) = same_form f g && (serves w v && (not (is_type f) || stands w v))
  accepts (view.a_kind f w) view.not_given = false
  accepts view.not_given (view.a_kind g v) = false
  accepts view.not_given view.not_given = true

  -- what is given, and what is expected
  pub stands : What → What → Bool
  stands view.nothing view.nothing = true
  stands (view.made_of p xs) (view.made_of q ys) = same_plain p q && each_fits xs ys
  stands (view.named_resource n) (view.named_resource m) = bytes_eq n m
  stands (view.an_interface xs) (view.an_interface ys) = each_found (picked slot_export (offered xs)) (picked slot_export (listed ys))
  stands (view.a_world xs) (view.a_world ys) =
      each_taken (picked slot_import (demanded xs)) (picked slot_import (listed ys))
      && each_found (picked slot_export (offered xs)) (picked slot_export (listed ys))
  stands _ _ = false

  -- what is expected, and what is given
  pub serves : What → What → Bool
  serves view.nothing view.nothing = true
  serves (view.made_of p xs) (view.made_of q ys) = same_plain p q && each_accepts xs ys
  serves (view.named_resource n) (view.named_resource m) = bytes_eq m n
  serves (view.an_interface xs) (view.an_interface ys) = each_taken (picked slot_export (demanded xs)) (picked slot_export (listed ys))
  serves (view.a_world xs) (view.a_world ys) =
      each_found (picked slot_import (offered xs)) (picked slot_import (listed ys))
      && each_taken (picked slot_export (demanded xs)) (picked slot_export (listed ys))
  serves _ _ = false

  -- part by part, in order
  pub each_fits : Items → Items → Bool
  each_fits view.end view.end = true
  each_fits (view.item s x xs) (view.item t y ys) = same_slot s t && (fits x y && each_fits xs ys)
  each_fits _ _ = false

  pub each_accepts : Items → Items → Bool
  each_accepts view.end view.end = true
  each_accepts (view.item s x xs) (view.item t y ys) = same_slot s t && (accepts x y && each_accepts xs ys)
  each_accepts _ _ = false

  -- given items, each with what it fits
  pub offered : Items → List (Slot × (Seen → Bool))
  offered view.end = []
  offered (view.item s x xs) = (s, λ y. fits x y) ∷ offered xs

  -- expected items, each with what fits it
  pub demanded : Items → List (Slot × (Seen → Bool))
  demanded view.end = []
  demanded (view.item s x xs) = (s, λ y. accepts x y) ∷ demanded xs

-- why a kind may not stand where another is expected, and why a name may not be one
abbrev pub does_not_fit : Reason
does_not_fit = record { 0 = 1 }

abbrev pub no_name : Reason
no_name = record { 0 = 2 }

abbrev pub unless : Reason → Bool → Option Reason
unless reason true = None
unless reason false = Some reason

-- no reason where the first may stand where the second is expected
unfoldable pub component_passes : Meaning → Meaning → Option Reason
component_passes a b = unless does_not_fit (fits (seen a) (seen b))

-- no reason where imports and exports may have the name
unfoldable pub component_names : List ℕ → Option Reason
component_names name = unless no_name (is_extern_name name)
