-- What fits is what is accepted the other way round.
use Rattle.std.proofs.Common.{◌≡◌, ◌∙◌, ℕ, List, Option, Some, None, Bool, true, false, refl, sym, ap, subst, cond}
use Rattle.std.specs.Prelude.{◌&&◌, ◌||◌, not}
use Rattle.std.specs.Str.{bytes_eq}
use Rattle.std.proofs.Math.Bool.{decide}
use Rattle.wac_graph_types.specs.Equality.{meaning_discrete}
use Rattle.wac_graph_types.specs.Kind.{Form}
use Rattle.wac_graph_types.specs.Entry.{Slot}
use Rattle.wac_graph_types.specs.Label.{Plain, plain, kind, absent}
use Rattle.wac_graph_types.specs.Meaning.{Meaning, node, done, more}
use Rattle.wac_graph_types.specs.Scope.{look_up}
use Rattle.wac_graph_types.specs.Shape.{slot_import, slot_export, cons_named}
use Rattle.wac_component_rules.specs.Seen as view
use Rattle.wac_component_rules.specs.Seen.{Seen, What, Items, listed, picked}
use Rattle.wac_component_rules.specs.Fits.{same_plain, same_form, same_slot, is_type, found_fits, each_found, fits_found, each_taken, fits, accepts, stands, serves, each_fits, each_accepts, offered, demanded}

-- ---- equality of labels, as a truth value

decided : {P : Type 0} (d : Dec P) → P → decide d ≡ true
unfolding decide
decided (yes p) h = refl
decided (no n) h = absurd (n h)

undecided : {P : Type 0} (d : Dec P) → (P → ⊥) → decide d ≡ false
unfolding decide
undecided (yes p) h = absurd (h p)
undecided (no n) h = refl

truly : {P : Type 0} (d : Dec P) → decide d ≡ true → P
unfolding decide
truly (yes p) h = p
truly (no n) h = absurd (cc)

turned_decision : {P Q : Type 0} (d : Dec P) (e : Dec Q) → (P → Q) → (Q → P) → decide d ≡ decide e
unfolding decide
turned_decision (yes p) e f g = sym (decided e (f p))
turned_decision (no n) e f g = sym (undecided e (λ q. n (g q)))

pub plain_same : (p q : Plain) → p ≡ q → same_plain p q ≡ true
plain_same p q e = decided (meaning_discrete (node (plain p) done) (node (plain q) done)) (cc)

pub plain_differs : (p q : Plain) → (p ≡ q → ⊥) → same_plain p q ≡ false
plain_differs p q n = undecided (meaning_discrete (node (plain p) done) (node (plain q) done)) (λ e. n (cc))

pub plain_truly : (p q : Plain) → same_plain p q ≡ true → p ≡ q
plain_truly p q h = let e = truly (meaning_discrete (node (plain p) done) (node (plain q) done)) h in cc

pub form_same : (f g : Form) → f ≡ g → same_form f g ≡ true
form_same f g e = plain_same (kind f) (kind g) (ap kind e)

pub form_differs : (f g : Form) → (f ≡ g → ⊥) → same_form f g ≡ false
form_differs f g n = plain_differs (kind f) (kind g) (λ e. n (cc))

pub form_truly : (f g : Form) → same_form f g ≡ true → f ≡ g
form_truly f g h = let e = plain_truly (kind f) (kind g) h in cc

slot_meaning : Slot → Meaning
slot_meaning s = node (plain absent) (more s (node (plain absent) done) done)

pub slot_same : (s t : Slot) → s ≡ t → same_slot s t ≡ true
slot_same s t e = decided (meaning_discrete (node (plain absent) (more s (node (plain absent) done) done)) (node (plain absent) (more t (node (plain absent) done) done))) (cc)

pub slot_differs : (s t : Slot) → (s ≡ t → ⊥) → same_slot s t ≡ false
slot_differs s t n = undecided (meaning_discrete (node (plain absent) (more s (node (plain absent) done) done)) (node (plain absent) (more t (node (plain absent) done) done))) (λ e. n (cc))

pub slot_truly : (s t : Slot) → same_slot s t ≡ true → s ≡ t
slot_truly s t h =
    let e = truly (meaning_discrete (node (plain absent) (more s (node (plain absent) done) done)) (node (plain absent) (more t (node (plain absent) done) done))) h in cc

plain_turned : (p q : Plain) → same_plain p q ≡ same_plain q p
plain_turned p q = turned_decision (meaning_discrete (node (plain p) done) (node (plain q) done)) (meaning_discrete (node (plain q) done) (node (plain p) done)) (λ e. sym e) (λ e. sym e)

slot_turned : (s t : Slot) → same_slot s t ≡ same_slot t s
slot_turned s t = turned_decision
    (meaning_discrete (node (plain absent) (more s (node (plain absent) done) done)) (node (plain absent) (more t (node (plain absent) done) done)))
    (meaning_discrete (node (plain absent) (more t (node (plain absent) done) done)) (node (plain absent) (more s (node (plain absent) done) done)))
    (λ e. sym e) (λ e. sym e)

-- ---- truth values

pub and_false : (a : Bool) → a && false ≡ false
and_false true = refl
and_false false = refl

both : (a b c d : Bool) → a ≡ c → b ≡ d → a && b ≡ c && d
both a b c d p q = cc

-- ---- what is turned

Turned : Seen → Type 0
Turned x = (y : Seen) → (accepts x y ≡ fits y x) × (fits x y ≡ accepts y x)

TurnedWhat : What → Type 0
TurnedWhat w = (v : What) → (serves w v ≡ stands v w) × (stands w v ≡ serves v w)

EachTurned : Items → Type 0
EachTurned view.end = Unit {0}
EachTurned (view.item s x xs) = Turned x × EachTurned xs

-- a kind of one form is a type where the other is
turned_kinds : (f g : Form) (a b : Bool) → same_form f g && (a && (not (is_type f) || b)) ≡ same_form g f && (a && (not (is_type g) || b))
turned_kinds f g a b = go (same_form f g) refl
  where
    go : (s : Bool) → same_form f g ≡ s → same_form f g && (a && (not (is_type f) || b)) ≡ same_form g f && (a && (not (is_type g) || b))
    go true is = (let e : f ≡ g = form_truly f g is in subst (λ (h : Form). same_form f h && (a && (not (is_type f) || b)) ≡ same_form h f && (a && (not (is_type h) || b))) e refl)
    go false is =
        let turned : same_form g f ≡ false = sym (plain_turned (kind f) (kind g)) ∙ is in
        ap (λ (s : Bool). s && (a && (not (is_type f) || b))) is ∙ sym (ap (λ (s : Bool). s && (a && (not (is_type g) || b))) turned)

turned_kind : (f : Form) (w : What) → TurnedWhat w → Turned (view.a_kind f w)
unfolding Turned TurnedWhat
turned_kind f w h view.not_given = (refl, refl)
turned_kind f w h (view.a_kind g v) =
    let one : serves w v ≡ stands v w = (h v).0 in
    let two : stands w v ≡ serves v w = (h v).1 in (
      ap (λ (a : Bool). same_form f g && (a && (not (is_type f) || stands w v))) one ∙ ap (λ (b : Bool). same_form f g && (stands v w && (not (is_type f) || b))) two ∙ turned_kinds f g (stands v w) (serves v w),
      ap (λ (a : Bool). same_form f g && (a && (not (is_type f) || serves w v))) two ∙ ap (λ (b : Bool). same_form f g && (serves v w && (not (is_type f) || b))) one ∙ turned_kinds f g (serves v w) (stands v w),
    )

-- ---- items by name

one_taken : (pick : Slot → Option (List ℕ)) (x : Seen) (n : List ℕ) (ys : Items) → Turned x
    → fits_found (λ y. accepts x y) (look_up n (picked pick (listed ys))) ≡ found_fits (look_up n (picked pick (offered ys))) x
unfolding Turned
one_taken pick x n view.end h = refl
one_taken pick x n (view.item t y ys) h = go (pick t) (one_taken pick x n ys h)
  where
    go : (o : Option (List ℕ)) → fits_found (λ y. accepts x y) (look_up n (picked pick (listed ys))) ≡ found_fits (look_up n (picked pick (offered ys))) x
        → fits_found (λ y. accepts x y) (look_up n (cons_named o y (picked pick (listed ys)))) ≡ found_fits (look_up n (cons_named o (λ z. fits y z) (picked pick (offered ys)))) x
    go None later = later
    go (Some m) later = at (bytes_eq n m)
      where
        at : (b : Bool) → fits_found (λ y. accepts x y) (cond b (Some y) (look_up n (picked pick (listed ys)))) ≡ found_fits (cond b (Some (λ z. fits y z)) (look_up n (picked pick (offered ys)))) x
        at true = (h y).0
        at false = later

one_found : (pick : Slot → Option (List ℕ)) (y : Seen) (n : List ℕ) (xs : Items) → EachTurned xs
    → found_fits (look_up n (picked pick (offered xs))) y ≡ fits_found (λ z. accepts y z) (look_up n (picked pick (listed xs)))
unfolding Turned EachTurned
one_found pick y n view.end h = refl
one_found pick y n (view.item s x xs) h = go (pick s) (one_found pick y n xs h.1)
  where
    go : (o : Option (List ℕ)) → found_fits (look_up n (picked pick (offered xs))) y ≡ fits_found (λ z. accepts y z) (look_up n (picked pick (listed xs)))
        → found_fits (look_up n (cons_named o (λ z. fits x z) (picked pick (offered xs)))) y ≡ fits_found (λ z. accepts y z) (look_up n (cons_named o x (picked pick (listed xs))))
    go None later = later
    go (Some m) later = at (bytes_eq n m)
      where
        at : (b : Bool) → found_fits (cond b (Some (λ z. fits x z)) (look_up n (picked pick (offered xs)))) y ≡ fits_found (λ z. accepts y z) (cond b (Some x) (look_up n (picked pick (listed xs))))
        at true = (h.0 y).1
        at false = later

taken_found : (pick : Slot → Option (List ℕ)) (xs ys : Items) → EachTurned xs
    → each_taken (picked pick (demanded xs)) (picked pick (listed ys)) ≡ each_found (picked pick (offered ys)) (picked pick (listed xs))
unfolding EachTurned
taken_found pick view.end ys h = refl
taken_found pick (view.item s x xs) ys h = go (pick s) (taken_found pick xs ys h.1)
  where
    go : (o : Option (List ℕ)) → each_taken (picked pick (demanded xs)) (picked pick (listed ys)) ≡ each_found (picked pick (offered ys)) (picked pick (listed xs))
        → each_taken (cons_named o (λ z. accepts x z) (picked pick (demanded xs))) (picked pick (listed ys)) ≡ each_found (picked pick (offered ys)) (cons_named o x (picked pick (listed xs)))
    go None later = later
    go (Some n) later = both (fits_found (λ z. accepts x z) (look_up n (picked pick (listed ys)))) (each_taken (picked pick (demanded xs)) (picked pick (listed ys)))
        (found_fits (look_up n (picked pick (offered ys))) x) (each_found (picked pick (offered ys)) (picked pick (listed xs))) (one_taken pick x n ys h.0) later

found_taken : (pick : Slot → Option (List ℕ)) (xs ys : Items) → EachTurned xs
    → each_found (picked pick (offered xs)) (picked pick (listed ys)) ≡ each_taken (picked pick (demanded ys)) (picked pick (listed xs))
found_taken pick xs view.end h = refl
found_taken pick xs (view.item t y ys) h = go (pick t) (found_taken pick xs ys h)
  where
    go : (o : Option (List ℕ)) → each_found (picked pick (offered xs)) (picked pick (listed ys)) ≡ each_taken (picked pick (demanded ys)) (picked pick (listed xs))
        → each_found (picked pick (offered xs)) (cons_named o y (picked pick (listed ys))) ≡ each_taken (cons_named o (λ z. accepts y z) (picked pick (demanded ys))) (picked pick (listed xs))
    go None later = later
    go (Some n) later = both (found_fits (look_up n (picked pick (offered xs))) y) (each_found (picked pick (offered xs)) (picked pick (listed ys)))
        (fits_found (λ z. accepts y z) (look_up n (picked pick (listed xs)))) (each_taken (picked pick (demanded ys)) (picked pick (listed xs))) (one_found pick y n xs h) later

-- ---- parts in order

parts_turned : (xs ys : Items) → EachTurned xs → (each_accepts xs ys ≡ each_fits ys xs) × (each_fits xs ys ≡ each_accepts ys xs)
unfolding Turned EachTurned
parts_turned view.end view.end h = (refl, refl)
parts_turned view.end (view.item t y ys) h = (refl, refl)
parts_turned (view.item s x xs) view.end h = (refl, refl)
parts_turned (view.item s x xs) (view.item t y ys) h =
    let rest = parts_turned xs ys h.1 in (
      both (same_slot s t) (accepts x y && each_accepts xs ys) (same_slot t s) (fits y x && each_fits ys xs) (slot_turned s t) (both (accepts x y) (each_accepts xs ys) (fits y x) (each_fits ys xs) (h.0 y).0 rest.0),
      both (same_slot s t) (fits x y && each_fits xs ys) (same_slot t s) (accepts y x && each_accepts ys xs) (slot_turned s t) (both (fits x y) (each_fits xs ys) (accepts y x) (each_accepts ys xs) (h.0 y).1 rest.1),
    )

turned_items : (w : What) (xs : Items) → EachTurned xs → (p : Plain) → TurnedWhat (view.made_of p xs)
unfolding TurnedWhat
turned_items w xs h p (view.made_of q ys) =
    let rest = parts_turned xs ys h in (
      both (same_plain p q) (each_accepts xs ys) (same_plain q p) (each_fits ys xs) (plain_turned p q) rest.0,
      both (same_plain p q) (each_fits xs ys) (same_plain q p) (each_accepts ys xs) (plain_turned p q) rest.1,
    )
turned_items w xs h p view.nothing = (refl, refl)
turned_items w xs h p (view.named_resource n) = (refl, refl)
turned_items w xs h p (view.an_interface ys) = (refl, refl)
turned_items w xs h p (view.a_world ys) = (refl, refl)

turned_interface : (xs : Items) → EachTurned xs → TurnedWhat (view.an_interface xs)
unfolding TurnedWhat
turned_interface xs h (view.an_interface ys) = (taken_found slot_export xs ys h, found_taken slot_export xs ys h)
turned_interface xs h view.nothing = (refl, refl)
turned_interface xs h (view.made_of q ys) = (refl, refl)
turned_interface xs h (view.named_resource n) = (refl, refl)
turned_interface xs h (view.a_world ys) = (refl, refl)

turned_world : (xs : Items) → EachTurned xs → TurnedWhat (view.a_world xs)
unfolding TurnedWhat
turned_world xs h (view.a_world ys) = (
  both (each_found (picked slot_import (offered xs)) (picked slot_import (listed ys))) (each_taken (picked slot_export (demanded xs)) (picked slot_export (listed ys)))
      (each_taken (picked slot_import (demanded ys)) (picked slot_import (listed xs))) (each_found (picked slot_export (offered ys)) (picked slot_export (listed xs)))
      (found_taken slot_import xs ys h) (taken_found slot_export xs ys h),
  both (each_taken (picked slot_import (demanded xs)) (picked slot_import (listed ys))) (each_found (picked slot_export (offered xs)) (picked slot_export (listed ys)))
      (each_found (picked slot_import (offered ys)) (picked slot_import (listed xs))) (each_taken (picked slot_export (demanded ys)) (picked slot_export (listed xs)))
      (taken_found slot_import xs ys h) (found_taken slot_export xs ys h),
)
turned_world xs h view.nothing = (refl, refl)
turned_world xs h (view.made_of q ys) = (refl, refl)
turned_world xs h (view.named_resource n) = (refl, refl)
turned_world xs h (view.an_interface ys) = (refl, refl)

turned_nothing : TurnedWhat view.nothing
unfolding TurnedWhat
turned_nothing view.nothing = (refl, refl)
turned_nothing (view.made_of q ys) = (refl, refl)
turned_nothing (view.named_resource n) = (refl, refl)
turned_nothing (view.an_interface ys) = (refl, refl)
turned_nothing (view.a_world ys) = (refl, refl)

turned_resource : (n : List ℕ) → TurnedWhat (view.named_resource n)
unfolding TurnedWhat
turned_resource n (view.named_resource m) = (refl, refl)
turned_resource n view.nothing = (refl, refl)
turned_resource n (view.made_of q ys) = (refl, refl)
turned_resource n (view.an_interface ys) = (refl, refl)
turned_resource n (view.a_world ys) = (refl, refl)

turned_not_given : Turned view.not_given
unfolding Turned
turned_not_given view.not_given = (refl, refl)
turned_not_given (view.a_kind g v) = (refl, refl)

mutual
  unfolding Turned TurnedWhat EachTurned

  turned : (x : Seen) → Turned x
  turned (view.a_kind f w) = turned_kind f w (turned_what w)
  turned view.not_given = turned_not_given

  turned_what : (w : What) → TurnedWhat w
  turned_what view.nothing = turned_nothing
  turned_what (view.made_of p xs) = turned_items view.nothing xs (each_turned xs) p
  turned_what (view.named_resource n) = turned_resource n
  turned_what (view.an_interface xs) = turned_interface xs (each_turned xs)
  turned_what (view.a_world xs) = turned_world xs (each_turned xs)

  each_turned : (xs : Items) → EachTurned xs
  each_turned view.end = tt
  each_turned (view.item s x xs) = (turned x, each_turned xs)

-- what is expected of the given is what is given to the expected
pub serves_stands : (w v : What) → serves w v ≡ stands v w
unfolding TurnedWhat
serves_stands w v = (turned_what w v).0

pub taken_is_found : (pick : Slot → Option (List ℕ)) (xs ys : Items)
    → each_taken (picked pick (demanded xs)) (picked pick (listed ys)) ≡ each_found (picked pick (offered ys)) (picked pick (listed xs))
taken_is_found pick xs ys = taken_found pick xs ys (each_turned xs)
