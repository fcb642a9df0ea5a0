-- Each name that is bound, imported or exported has a place.
use Rattle.wac_resolution_rules.proofs.Common.{◌≡◌, ℕ, List, [], ◌∷◌, ◌++◌, length, refl, sym, ◌∙◌, ap, subst, drop, Option, Some, Bool, true, false, cond, filter_map, option_map, cons_option, bytes_eq, Span, Meaning, Named, look_up, StandsFor, Steps, Statement}
use Rattle.wac_resolution_rules.specs.Given.{Given}
use Rattle.wac_resolution_rules.specs.Composition.{Composition, Node, start}
use Rattle.wac_resolution_rules.specs.Nodes.{import_of, import_name, imports}
use Rattle.wac_resolution_rules.specs.Find.{names_of}
use Rattle.wac_resolution_rules.specs.Sound.{IsKept, AreKept, Begins}
use Rattle.wac_resolution_rules.specs.Places.{HavePlaces, Leads, Placed, Places, bound_at, extern_at, more_at, names_at, placed_start, places_after}
use Rattle.wac_resolution_rules.proofs.Names.{cons_append}
use Rattle.wac_resolution_rules.proofs.Prefixes.{AreNamed, goes_continues}

names_append : {X : Type 0} (xs ys : Named X) → names_of (xs ++ ys) ≡ names_of xs ++ names_of ys
names_append [] ys = refl
names_append (x ∷ xs) ys = ap (λ l. x.0 ∷ l) (names_append xs ys)

drop_front : {X : Type 0} (xs ys : List X) → drop (length xs) (xs ++ ys) ≡ ys
drop_front [] ys = refl
drop_front (x ∷ xs) ys = drop_front xs ys

names_placed : {X : Type 0} (span : Span) (xs : Named X) → names_of (names_at span xs) ≡ names_of xs
names_placed span [] = refl
names_placed span (x ∷ xs) = ap (λ l. x.0 ∷ l) (names_placed span xs)

placed_more : {X : Type 0} (span : Span) (places : Named Span) (old new more : Named X) → names_of places ≡ names_of old → new ≡ old ++ more → names_of (places ++ more_at span old new) ≡ names_of new
placed_more {X} span places old new more e is =
    names_append places (more_at span old new)
    ∙ ap (λ (l : Named X). names_of places ++ names_of (names_at span (drop (length old) l))) is
    ∙ ap (λ (l : Named X). names_of places ++ names_of (names_at span l)) (drop_front old more)
    ∙ ap (λ l. names_of places ++ l) (names_placed span more)
    ∙ ap (λ l. l ++ names_of more) e
    ∙ sym (names_append old more)
    ∙ ap (λ (l : Named X). names_of l) (sym is)

import_kept : (a b : Node) → IsKept a b → import_of b ≡ import_of a
import_kept a b p = λ i. option_map (λ name. (name, p.kind i)) (import_name (p.form i))

-- the imports of kept nodes come first
imports_kept : (ns ms : List Node) → AreKept ns ms → (more : Named Meaning) × (filter_map import_of ms ≡ filter_map import_of ns ++ more)
imports_kept [] ms p = (filter_map import_of ms, refl)
imports_kept (n ∷ ns) [] p = absurd p
imports_kept (n ∷ ns) (m ∷ ms) p =
    let r = imports_kept ns ms p.1 in
    (r.0, ap (λ (o : Option (List ℕ × Meaning)). cons_option o (filter_map import_of ms)) (import_kept n m p.0) ∙ ap (λ (l : Named Meaning). cons_option (import_of n) l) r.1 ∙ cons_append (import_of n) (filter_map import_of ns) r.0)

pub begins_places : (old new : Composition) (p : Places) (x : Statement) → Begins old new → HavePlaces old p → HavePlaces new (places_after old p x new)
begins_places old new p x b h =
    let r = imports_kept old.nodes new.nodes b.nodes in
    record {
      bound = placed_more (bound_at x) p.bound old.declared new.declared b.declared.0 h.bound b.declared.1;
      imported = placed_more (extern_at x) p.imported (imports old) (imports new) r.0 h.imported r.1;
      exported = placed_more (extern_at x) p.exported old.exports new.exports b.exports.0 h.exported b.exports.1;
    }

leads_places : (s : Given) (xs : List Statement) (old new : Placed) → AreNamed old.composition → HavePlaces old.composition old.places → Steps (Leads s) old xs new → HavePlaces new.composition new.places
leads_places s [] old new named h p = subst (λ (m : Placed). HavePlaces m.composition m.places) (sym p) h
leads_places s (x ∷ xs) old new named h p =
    let c = goes_continues s old.composition x p.0.composition named p.1.0 in
    leads_places s xs p.0 new c.named (subst (λ (q : Places). HavePlaces p.0.composition q) (sym p.1.1) (begins_places old.composition p.0.composition old.places x c.begins h)) p.2

-- after any statements each name has its place
pub statements_have_places : (s : Given) (xs : List Statement) (new : Placed) → Steps (Leads s) (placed_start start) xs new → HavePlaces new.composition new.places
statements_have_places s xs new p = leads_places s xs (placed_start start) new tt (record { bound = refl; imported = refl; exported = refl }) p

-- so each name that denotes something has a place
pub has_place : {X : Type 0} (name : List ℕ) (places : Named Span) (all : Named X) (x : X) → names_of places ≡ names_of all → StandsFor all name x → (span : Span) × StandsFor places name span
has_place name [] [] x e is = absurd (cc is)
has_place name [] (y ∷ ys) x e is = absurd (cc e)
has_place name (p ∷ ps) [] x e is = absurd (cc is)
has_place {X} name (p ∷ ps) (y ∷ ys) x e is =
    let first : p.0 ≡ y.0 = cc e in
    let rest : names_of ps ≡ names_of ys = cc e in
    let same : bytes_eq name p.0 ≡ bytes_eq name y.0 = ap (bytes_eq name) first in
    go (bytes_eq name y.0) same is (has_place name ps ys x rest)
  where
    go : (b : Bool) → bytes_eq name p.0 ≡ b → cond b (Some y.1) (look_up name ys) ≡ Some x → (StandsFor ys name x → (span : Span) × StandsFor ps name span) → (span : Span) × (cond (bytes_eq name p.0) (Some p.1) (look_up name ps) ≡ Some span)
    go true f g later = (p.1, ap (λ (c : Bool). cond c (Some p.1) (look_up name ps)) f)
    go false f g later = let r = later g in (r.0, ap (λ (c : Bool). cond c (Some p.1) (look_up name ps)) f ∙ r.1)
