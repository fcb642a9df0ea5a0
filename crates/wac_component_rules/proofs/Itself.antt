-- Each kind fits itself, if each name in it is that of one item.
use Rattle.std.proofs.Common.{◌≡◌, ◌∙◌, ℕ, List, [], ◌∷◌, map, refl, ap, Option, Some, None, Bool, true, false, cond}
use Rattle.std.specs.Prelude.{◌&&◌, ◌||◌, not}
use Rattle.std.specs.Str.{bytes_eq}
use Rattle.std.proofs.lemmas.Slice.Eq.{bytes_eq-Decides}
use Rattle.wac_graph_types.specs.Entry.{Slot}
use Rattle.wac_graph_types.specs.Kind.{Form}
use Rattle.wac_graph_types.specs.Scope.{Named, look_up}
use Rattle.wac_graph_types.specs.Shape.{slot_import, slot_export, cons_named}
use Rattle.wac_component_rules.specs.Seen as view
use Rattle.wac_component_rules.specs.Seen.{Seen, What, Items, listed, picked}
use Rattle.wac_component_rules.specs.Fits.{same_plain, same_form, same_slot, is_type, found_fits, each_found, each_taken, fits, stands, serves, each_fits, offered, demanded}
use Rattle.wac_component_rules.specs.Own.{OwnNames, HasOwnNames, IsClear, IsClearOf, AreClear}
use Rattle.wac_component_rules.proofs.Turning.{form_same, plain_same, slot_same, serves_stands, taken_is_found}
use Rattle.wac_component_rules.proofs.SideRows.{fit_listed}

pub and_true : (a b : Bool) → a ≡ true → b ≡ true → a && b ≡ true
and_true true b p q = q
and_true false b p q = absurd (cc)

pub or_right : (a b : Bool) → b ≡ true → a || b ≡ true
or_right true b h = refl
or_right false b h = h

-- an item, with what it fits
abbrev pub fit_of : List ℕ × Seen → List ℕ × (Seen → Bool)
fit_of e = (e.0, λ (y : Seen). fits e.1 y)

FitsItself : Seen → Type 0
FitsItself x = fits x x ≡ true

EachFitsItself : Items → Type 0
EachFitsItself view.end = Unit {0}
EachFitsItself (view.item s x xs) = (fits x x ≡ true) × EachFitsItself xs

AllFitThemselves : Named Seen → Type 0
AllFitThemselves [] = Unit {0}
AllFitThemselves (e ∷ es) = (fits e.1 e.1 ≡ true) × AllFitThemselves es

kind_itself : (f : Form) (w : What) → stands w w ≡ true → fits (view.a_kind f w) (view.a_kind f w) ≡ true
kind_itself f w h =
    and_true (same_form f f) (stands w w && (not (is_type f) || serves w w)) (form_same f f refl)
    (and_true (stands w w) (not (is_type f) || serves w w) h (or_right (not (is_type f)) (serves w w) (serves_stands w w ∙ h)))

parts_themselves : (xs : Items) → EachFitsItself xs → each_fits xs xs ≡ true
unfolding EachFitsItself
parts_themselves view.end h = refl
parts_themselves (view.item s x xs) h =
    and_true (same_slot s s) (fits x x && each_fits xs xs) (slot_same s s refl) (and_true (fits x x) (each_fits xs xs) h.0 (parts_themselves xs h.1))

-- ---- items by name

picked_themselves : (pick : Slot → Option (List ℕ)) (xs : Items) → EachFitsItself xs → AllFitThemselves (picked pick (listed xs))
unfolding EachFitsItself AllFitThemselves
picked_themselves pick view.end h = tt
picked_themselves pick (view.item s x xs) h = go (pick s) (picked_themselves pick xs h.1)
  where
    go : (o : Option (List ℕ)) → AllFitThemselves (picked pick (listed xs)) → AllFitThemselves (cons_named o x (picked pick (listed xs)))
    go None rest = rest
    go (Some n) rest = (h.0, rest)

found_fit : (all : Named Seen) (n : List ℕ) (x : Seen) → look_up n all ≡ Some x → look_up n (map fit_of all) ≡ Some (λ (y : Seen). fits x y)
found_fit [] n x h = absurd (cc)
found_fit (e ∷ all) n x h = go (bytes_eq n e.0) h (found_fit all n x)
  where
    go : (b : Bool) → cond b (Some e.1) (look_up n all) ≡ Some x → (look_up n all ≡ Some x → look_up n (map fit_of all) ≡ Some (λ (y : Seen). fits x y))
        → cond b (Some (λ (y : Seen). fits e.1 y)) (look_up n (map fit_of all)) ≡ Some (λ (y : Seen). fits x y)
    go true is later = (let same : e.1 ≡ x = cc in ap (λ (z : Seen). Some (λ (y : Seen). fits z y)) same)
    go false is later = later is

each_itself : (all es : Named Seen) → OwnNames all es → AllFitThemselves es → each_found (map fit_of all) es ≡ true
unfolding AllFitThemselves
each_itself all [] own h = refl
each_itself all (e ∷ es) own h =
    and_true (found_fits (look_up e.0 (map fit_of all)) e.1) (each_found (map fit_of all) es)
    (ap (λ (o : Option (Seen → Bool)). found_fits o e.1) (found_fit all e.0 e.1 own.0) ∙ h.0)
    (each_itself all es own.1 h.1)

side_itself : (pick : Slot → Option (List ℕ)) (xs : Items) → EachFitsItself xs → HasOwnNames pick xs → each_found (picked pick (offered xs)) (picked pick (listed xs)) ≡ true
side_itself pick xs h own =
    ap (λ (l : Named (Seen → Bool)). each_found l (picked pick (listed xs))) (fit_listed pick xs)
    ∙ each_itself (picked pick (listed xs)) (picked pick (listed xs)) own (picked_themselves pick xs h)

-- ---- kinds

mutual
  unfolding FitsItself EachFitsItself

  itself : (x : Seen) → IsClear x → FitsItself x
  itself (view.a_kind f w) h = kind_itself f w (what_itself w h)
  itself view.not_given h = refl

  what_itself : (w : What) → IsClearOf w → stands w w ≡ true
  what_itself view.nothing h = refl
  what_itself (view.made_of p xs) h = and_true (same_plain p p) (each_fits xs xs) (plain_same p p refl) (parts_themselves xs (each_one xs h))
  what_itself (view.named_resource n) h = (bytes_eq-Decides n n).1 refl
  what_itself (view.an_interface xs) h = side_itself slot_export xs (each_one xs h.0) h.1
  what_itself (view.a_world xs) h =
      and_true (each_taken (picked slot_import (demanded xs)) (picked slot_import (listed xs))) (each_found (picked slot_export (offered xs)) (picked slot_export (listed xs)))
      (taken_is_found slot_import xs xs ∙ side_itself slot_import xs (each_one xs h.0) h.1)
      (side_itself slot_export xs (each_one xs h.0) h.2)

  each_one : (xs : Items) → AreClear xs → EachFitsItself xs
  each_one view.end h = tt
  each_one (view.item s x xs) h = (itself x h.0, each_one xs h.1)

pub fits_itself : (x : Seen) → IsClear x → fits x x ≡ true
unfolding FitsItself
fits_itself x h = itself x h
