-- What fits a kind that fits a third one fits that.
use Rattle.std.proofs.Common.{◌≡◌, ◌∙◌, ℕ, List, [], ◌∷◌, map, refl, sym, ap, subst, Option, Some, None, Bool, true, false, cond}
use Rattle.std.specs.Prelude.{◌&&◌, ◌||◌, not}
use Rattle.std.specs.Str.{bytes_eq}
use Rattle.std.proofs.lemmas.Slice.Eq.{bytes_eq-Decides}
use Rattle.wac_graph_types.specs.Entry.{Slot}
use Rattle.wac_graph_types.specs.Kind.{Form}
use Rattle.wac_graph_types.specs.Label.{Plain}
use Rattle.wac_graph_types.specs.Scope.{Named, look_up}
use Rattle.wac_graph_types.specs.Shape.{slot_import, slot_export, cons_named}
use Rattle.wac_component_rules.specs.Seen as view
use Rattle.wac_component_rules.specs.Seen.{Seen, What, Items, listed, picked}
use Rattle.wac_component_rules.specs.Fits.{same_plain, same_form, same_slot, is_type, found_fits, each_found, each_taken, fits, stands, serves, each_fits, offered, demanded}
use Rattle.wac_component_rules.proofs.Itself.{and_true, fit_of}
use Rattle.wac_component_rules.proofs.Turning.{form_same, form_truly, plain_same, plain_truly, slot_same, slot_truly, serves_stands, taken_is_found}
use Rattle.wac_component_rules.proofs.SideRows.{fit_listed}

left_true : (a b : Bool) → a && b ≡ true → a ≡ true
left_true true b h = refl
left_true false b h = absurd (cc)

right_true : (a b : Bool) → a && b ≡ true → b ≡ true
right_true true b h = h
right_true false b h = absurd (cc)

-- a kind leads from each that fits it to each that it fits
Leads : Seen → Type 0
Leads y = (x z : Seen) → fits x y ≡ true → fits y z ≡ true → fits x z ≡ true

LeadsOf : What → Type 0
LeadsOf v = (w u : What) → stands w v ≡ true → stands v u ≡ true → stands w u ≡ true

EachLeads : Items → Type 0
EachLeads view.end = Unit {0}
EachLeads (view.item s x xs) = Leads x × EachLeads xs

AllLead : Named Seen → Type 0
AllLead [] = Unit {0}
AllLead (e ∷ es) = Leads e.1 × AllLead es

-- types are compared both ways, if they are
both_ways : (t : Bool) (a b c : Bool) → (a ≡ true → b ≡ true → c ≡ true) → not t || a ≡ true → not t || b ≡ true → not t || c ≡ true
both_ways true a b c f p q = f p q
both_ways false a b c f p q = refl

kind_leads : (g : Form) (v : What) → LeadsOf v → Leads (view.a_kind g v)
unfolding Leads LeadsOf
kind_leads g v h view.not_given z s t = absurd (cc)
kind_leads g v h (view.a_kind f w) view.not_given s t = absurd (cc)
kind_leads g v h (view.a_kind f w) (view.a_kind k u) s t =
    let one : f ≡ g = form_truly f g (left_true (same_form f g) (stands w v && (not (is_type f) || serves w v)) s) in
    let two : g ≡ k = form_truly g k (left_true (same_form g k) (stands v u && (not (is_type g) || serves v u)) t) in
    let p : stands w v && (not (is_type f) || serves w v) ≡ true = right_true (same_form f g) (stands w v && (not (is_type f) || serves w v)) s in
    let q : stands v u && (not (is_type g) || serves v u) ≡ true = right_true (same_form g k) (stands v u && (not (is_type g) || serves v u)) t in
    let back : not (is_type f) || serves v u ≡ true = subst (λ (x : Form). not (is_type x) || serves v u ≡ true) (sym one) (right_true (stands v u) (not (is_type g) || serves v u) q) in
    let turned : serves w v ≡ true → serves v u ≡ true → serves w u ≡ true = λ a b. serves_stands w u ∙ h u w (sym (serves_stands v u) ∙ b) (sym (serves_stands w v) ∙ a) in
    and_true (same_form f k) (stands w u && (not (is_type f) || serves w u)) (form_same f k (one ∙ two))
    (and_true (stands w u) (not (is_type f) || serves w u)
    (h w u (left_true (stands w v) (not (is_type f) || serves w v) p) (left_true (stands v u) (not (is_type g) || serves v u) q))
    (both_ways (is_type f) (serves w v) (serves v u) (serves w u) turned (right_true (stands w v) (not (is_type f) || serves w v) p) back))

absent_leads : Leads view.not_given
unfolding Leads
absent_leads view.not_given z s t = t
absent_leads (view.a_kind f w) z s t = absurd (cc)

-- ---- parts in order

parts_lead : (xs ys zs : Items) → EachLeads ys → each_fits xs ys ≡ true → each_fits ys zs ≡ true → each_fits xs zs ≡ true
unfolding EachLeads Leads
parts_lead view.end view.end zs h s t = t
parts_lead (view.item a x xs) view.end zs h s t = absurd (cc)
parts_lead view.end (view.item b y ys) zs h s t = absurd (cc)
parts_lead (view.item a x xs) (view.item b y ys) view.end h s t = absurd (cc)
parts_lead (view.item a x xs) (view.item b y ys) (view.item c z zs) h s t =
    let one : a ≡ b = slot_truly a b (left_true (same_slot a b) (fits x y && each_fits xs ys) s) in
    let two : b ≡ c = slot_truly b c (left_true (same_slot b c) (fits y z && each_fits ys zs) t) in
    let p : fits x y && each_fits xs ys ≡ true = right_true (same_slot a b) (fits x y && each_fits xs ys) s in
    let q : fits y z && each_fits ys zs ≡ true = right_true (same_slot b c) (fits y z && each_fits ys zs) t in
    and_true (same_slot a c) (fits x z && each_fits xs zs) (slot_same a c (one ∙ two))
    (and_true (fits x z) (each_fits xs zs)
    (h.0 x z (left_true (fits x y) (each_fits xs ys) p) (left_true (fits y z) (each_fits ys zs) q))
    (parts_lead xs ys zs h.1 (right_true (fits x y) (each_fits xs ys) p) (right_true (fits y z) (each_fits ys zs) q)))

-- ---- items by name

picked_lead : (pick : Slot → Option (List ℕ)) (xs : Items) → EachLeads xs → AllLead (picked pick (listed xs))
unfolding EachLeads AllLead
picked_lead pick view.end h = tt
picked_lead pick (view.item s x xs) h = go (pick s) (picked_lead pick xs h.1)
  where
    go : (o : Option (List ℕ)) → AllLead (picked pick (listed xs)) → AllLead (cons_named o x (picked pick (listed xs)))
    go None rest = rest
    go (Some n) rest = (h.0, rest)

-- what is given under a name fits what the item of that name fits
from_given : (gs : Named Seen) (n : List ℕ) (y z : Seen) → Leads y → found_fits (look_up n (map fit_of gs)) y ≡ true → fits y z ≡ true → found_fits (look_up n (map fit_of gs)) z ≡ true
unfolding Leads
from_given [] n y z h s t = absurd (cc)
from_given (a ∷ gs) n y z h s t = go (bytes_eq n a.0) s (from_given gs n y z h)
  where
    go : (b : Bool) → found_fits (cond b (Some (λ (x : Seen). fits a.1 x)) (look_up n (map fit_of gs))) y ≡ true
        → (found_fits (look_up n (map fit_of gs)) y ≡ true → fits y z ≡ true → found_fits (look_up n (map fit_of gs)) z ≡ true)
        → found_fits (cond b (Some (λ (x : Seen). fits a.1 x)) (look_up n (map fit_of gs))) z ≡ true
    go true is later = h a.1 z is t
    go false is later = later is t

one_leads : (gs bs : Named Seen) (n : List ℕ) (z : Seen) → AllLead bs → each_found (map fit_of gs) bs ≡ true → found_fits (look_up n (map fit_of bs)) z ≡ true → found_fits (look_up n (map fit_of gs)) z ≡ true
unfolding AllLead
one_leads gs [] n z h s t = absurd (cc)
one_leads gs (b ∷ bs) n z h s t =
    go (bytes_eq n b.0) refl t (one_leads gs bs n z h.1 (right_true (found_fits (look_up b.0 (map fit_of gs)) b.1) (each_found (map fit_of gs) bs) s))
  where
    here : found_fits (look_up b.0 (map fit_of gs)) b.1 ≡ true
    here = left_true (found_fits (look_up b.0 (map fit_of gs)) b.1) (each_found (map fit_of gs) bs) s

    go : (c : Bool) → bytes_eq n b.0 ≡ c → found_fits (cond c (Some (λ (x : Seen). fits b.1 x)) (look_up n (map fit_of bs))) z ≡ true
        → (found_fits (look_up n (map fit_of bs)) z ≡ true → found_fits (look_up n (map fit_of gs)) z ≡ true) → found_fits (look_up n (map fit_of gs)) z ≡ true
    go true same fit later = from_given gs n b.1 z h.0 (subst (λ (m : List ℕ). found_fits (look_up m (map fit_of gs)) b.1 ≡ true) (sym ((bytes_eq-Decides n b.0).0 same)) here) fit
    go false same fit later = later fit

all_lead : (gs bs cs : Named Seen) → AllLead bs → each_found (map fit_of gs) bs ≡ true → each_found (map fit_of bs) cs ≡ true → each_found (map fit_of gs) cs ≡ true
all_lead gs bs [] h s t = refl
all_lead gs bs (c ∷ cs) h s t =
    and_true (found_fits (look_up c.0 (map fit_of gs)) c.1) (each_found (map fit_of gs) cs)
    (one_leads gs bs c.0 c.1 h s (left_true (found_fits (look_up c.0 (map fit_of bs)) c.1) (each_found (map fit_of bs) cs) t))
    (all_lead gs bs cs h s (right_true (found_fits (look_up c.0 (map fit_of bs)) c.1) (each_found (map fit_of bs) cs) t))

fit_items_found : (pick : Slot → Option (List ℕ)) (xs ys : Items)
    → each_found (picked pick (offered xs)) (picked pick (listed ys)) ≡ each_found (map fit_of (picked pick (listed xs))) (picked pick (listed ys))
fit_items_found pick xs ys = ap (λ (l : Named (Seen → Bool)). each_found l (picked pick (listed ys))) (fit_listed pick xs)

side_leads : (pick : Slot → Option (List ℕ)) (xs ys zs : Items) → EachLeads ys
    → each_found (picked pick (offered xs)) (picked pick (listed ys)) ≡ true → each_found (picked pick (offered ys)) (picked pick (listed zs)) ≡ true
    → each_found (picked pick (offered xs)) (picked pick (listed zs)) ≡ true
side_leads pick xs ys zs h s t =
    fit_items_found pick xs zs
    ∙ all_lead (picked pick (listed xs)) (picked pick (listed ys)) (picked pick (listed zs)) (picked_lead pick ys h)
    (sym (fit_items_found pick xs ys) ∙ s) (sym (fit_items_found pick ys zs) ∙ t)

-- ---- kinds

nothing_leads : LeadsOf view.nothing
unfolding LeadsOf
nothing_leads view.nothing u s t = t
nothing_leads (view.made_of p xs) u s t = absurd (cc)
nothing_leads (view.named_resource n) u s t = absurd (cc)
nothing_leads (view.an_interface xs) u s t = absurd (cc)
nothing_leads (view.a_world xs) u s t = absurd (cc)

made_leads : (q : Plain) (ys : Items) → EachLeads ys → LeadsOf (view.made_of q ys)
unfolding LeadsOf
made_leads q ys h (view.made_of p xs) (view.made_of r zs) s t =
    let one : p ≡ q = plain_truly p q (left_true (same_plain p q) (each_fits xs ys) s) in
    let two : q ≡ r = plain_truly q r (left_true (same_plain q r) (each_fits ys zs) t) in
    and_true (same_plain p r) (each_fits xs zs) (plain_same p r (one ∙ two))
    (parts_lead xs ys zs h (right_true (same_plain p q) (each_fits xs ys) s) (right_true (same_plain q r) (each_fits ys zs) t))
made_leads q ys h (view.made_of p xs) view.nothing s t = absurd (cc)
made_leads q ys h (view.made_of p xs) (view.named_resource n) s t = absurd (cc)
made_leads q ys h (view.made_of p xs) (view.an_interface zs) s t = absurd (cc)
made_leads q ys h (view.made_of p xs) (view.a_world zs) s t = absurd (cc)
made_leads q ys h view.nothing u s t = absurd (cc)
made_leads q ys h (view.named_resource n) u s t = absurd (cc)
made_leads q ys h (view.an_interface xs) u s t = absurd (cc)
made_leads q ys h (view.a_world xs) u s t = absurd (cc)

resource_leads : (m : List ℕ) → LeadsOf (view.named_resource m)
unfolding LeadsOf
resource_leads m (view.named_resource n) u s t =
    subst (λ (x : List ℕ). stands (view.named_resource x) u ≡ true) (sym ((bytes_eq-Decides n m).0 s)) t
resource_leads m view.nothing u s t = absurd (cc)
resource_leads m (view.made_of p xs) u s t = absurd (cc)
resource_leads m (view.an_interface xs) u s t = absurd (cc)
resource_leads m (view.a_world xs) u s t = absurd (cc)

interface_leads : (ys : Items) → EachLeads ys → LeadsOf (view.an_interface ys)
unfolding LeadsOf
interface_leads ys h (view.an_interface xs) (view.an_interface zs) s t = side_leads slot_export xs ys zs h s t
interface_leads ys h (view.an_interface xs) view.nothing s t = absurd (cc)
interface_leads ys h (view.an_interface xs) (view.made_of p zs) s t = absurd (cc)
interface_leads ys h (view.an_interface xs) (view.named_resource n) s t = absurd (cc)
interface_leads ys h (view.an_interface xs) (view.a_world zs) s t = absurd (cc)
interface_leads ys h view.nothing u s t = absurd (cc)
interface_leads ys h (view.made_of p xs) u s t = absurd (cc)
interface_leads ys h (view.named_resource n) u s t = absurd (cc)
interface_leads ys h (view.a_world xs) u s t = absurd (cc)

-- imports are taken, and exports found
imports_of : (xs ys : Items) → Bool
imports_of xs ys = each_taken (picked slot_import (demanded xs)) (picked slot_import (listed ys))

exports_of : (xs ys : Items) → Bool
exports_of xs ys = each_found (picked slot_export (offered xs)) (picked slot_export (listed ys))

world_leads : (ys : Items) → EachLeads ys → LeadsOf (view.a_world ys)
unfolding LeadsOf imports_of exports_of
world_leads ys h (view.a_world xs) (view.a_world zs) s t =
    and_true (imports_of xs zs) (exports_of xs zs)
    (taken_is_found slot_import xs zs ∙ side_leads slot_import zs ys xs h
    (sym (taken_is_found slot_import ys zs) ∙ left_true (imports_of ys zs) (exports_of ys zs) t)
    (sym (taken_is_found slot_import xs ys) ∙ left_true (imports_of xs ys) (exports_of xs ys) s))
    (side_leads slot_export xs ys zs h (right_true (imports_of xs ys) (exports_of xs ys) s) (right_true (imports_of ys zs) (exports_of ys zs) t))
world_leads ys h (view.a_world xs) view.nothing s t = absurd (cc)
world_leads ys h (view.a_world xs) (view.made_of p zs) s t = absurd (cc)
world_leads ys h (view.a_world xs) (view.named_resource n) s t = absurd (cc)
world_leads ys h (view.a_world xs) (view.an_interface zs) s t = absurd (cc)
world_leads ys h view.nothing u s t = absurd (cc)
world_leads ys h (view.made_of p xs) u s t = absurd (cc)
world_leads ys h (view.named_resource n) u s t = absurd (cc)
world_leads ys h (view.an_interface xs) u s t = absurd (cc)

mutual
  unfolding EachLeads

  leads : (y : Seen) → Leads y
  leads (view.a_kind g v) = kind_leads g v (what_leads v)
  leads view.not_given = absent_leads

  what_leads : (v : What) → LeadsOf v
  what_leads view.nothing = nothing_leads
  what_leads (view.made_of q ys) = made_leads q ys (each_leads ys)
  what_leads (view.named_resource m) = resource_leads m
  what_leads (view.an_interface ys) = interface_leads ys (each_leads ys)
  what_leads (view.a_world ys) = world_leads ys (each_leads ys)

  each_leads : (ys : Items) → EachLeads ys
  each_leads view.end = tt
  each_leads (view.item s y ys) = (leads y, each_leads ys)

pub fits_through : (x y z : Seen) → fits x y ≡ true → fits y z ≡ true → fits x z ≡ true
unfolding Leads
fits_through x y z s t = leads y x z s t
