-- An include loses nothing, and takes each name with a colon as it is.
use Rattle.wac_resolution_rules.proofs.Common.{◌≡◌, ℕ, List, [], ◌∷◌, ◌++◌, Some, None, Option, Bool, true, false, cond, refl, sym, ap, subst, bytes_eq, Meaning, Named, Scope, look_up, StandsFor, IsFresh, with_named, Steps, entry_of, imports_of, exports_of, WorldInclude}
use Rattle.wac_lexer.proofs.Texts.{bytes_eq_same}
use Rattle.wac_resolution_rules.specs.Paths.{Context}
use Rattle.wac_resolution_rules.specs.Bodies.{Body}
use Rattle.wac_resolution_rules.specs.Includes.{Entries, has_colon, Taking, with_missing, name_taken, TakesNamed, Takes, Included, HasInclude}
use Rattle.wac_resolution_rules.proofs.StepLaws.{steps_keep, steps_prefix}

-- what is found is still found with one more name
pub found_stays : {X : Type 0} (name : List ℕ) (all : Named X) (x : List ℕ) (v w : X) → StandsFor all name w → StandsFor (with_named all x v) name w
found_stays name [] x v w h = absurd (cc)
found_stays name (y ∷ all) x v w h = go (found_stays name all x v w) (bytes_eq name y.0) h
  where
    go : (StandsFor all name w → StandsFor (with_named all x v) name w) → (b : Bool) → cond b (Some y.1) (look_up name all) ≡ Some w → cond b (Some y.1) (look_up name (with_named all x v)) ≡ Some w
    go later true f = f
    go later false f = later f

-- a fresh name denotes what is added under it
pub added_stands : {X : Type 0} (name : List ℕ) (all : Named X) (v : X) → IsFresh name all → StandsFor (with_named all name v) name v
added_stands name [] v h = ap (λ (b : Bool). cond b (Some v) None) (bytes_eq_same name)
added_stands name (y ∷ all) v h = go (added_stands name all v) (bytes_eq name y.0) h
  where
    go : (IsFresh name all → StandsFor (with_named all name v) name v) → (b : Bool) → cond b (Some y.1) (look_up name all) ≡ None → cond b (Some y.1) (look_up name (with_named all name v)) ≡ Some v
    go later true f = absurd (cc)
    go later false f = later f

missing_stays : (there : Named Meaning) (name x : List ℕ) (m w : Meaning) → StandsFor there name w → StandsFor (with_missing there x m) name w
missing_stays there name x m w h = go (look_up x there)
  where
    go : (o : Option Meaning) → StandsFor (elim o [ None ↦ with_named there x m | Some old ↦ there ]) name w
    go None = found_stays name there x m w h
    go (Some old) = h

missing_stands : (there : Named Meaning) (name : List ℕ) (m : Meaning) → (w : Meaning) × StandsFor (with_missing there name m) name w
missing_stands there name m = go (look_up name there) refl
  where
    go : (o : Option Meaning) → look_up name there ≡ o → (w : Meaning) × StandsFor (elim o [ None ↦ with_named there name m | Some old ↦ there ]) name w
    go None e = (m, added_stands name there m e)
    go (Some old) e = (old, e)

-- what a name denotes it still denotes afterwards
pub takes_keeps : (name : List ℕ) (w : Meaning) (old : Taking) (x : List ℕ × Meaning) (new : Taking) → StandsFor old.there name w → Takes old x new → StandsFor new.there name w
takes_keeps name w old x new h p = go (has_colon x.0) p
  where
    go : (colon : Bool) → TakesNamed colon old x new → StandsFor new.there name w
    go true q = subst (λ (t : Taking). StandsFor t.there name w) (sym q) (missing_stays old.there name x.0 x.1 w h)
    go false q = subst (λ (t : Taking). StandsFor t.there name w) (sym q.1) (found_stays name old.there (name_taken old.entries x.0) x.1 w h)

-- a name with a colon exists afterwards
pub colon_stands : (old : Taking) (x : List ℕ × Meaning) (new : Taking) → has_colon x.0 ≡ true → Takes old x new → (w : Meaning) × StandsFor new.there x.0 w
colon_stands old x new colon p = go (has_colon x.0) colon p
  where
    go : (c : Bool) → c ≡ true → TakesNamed c old x new → (w : Meaning) × StandsFor new.there x.0 w
    go true e q = subst (λ (t : Taking). (w : Meaning) × StandsFor t.there x.0 w) (sym q) (missing_stands old.there x.0 x.1)
    go false e q = absurd (cc)

-- an include loses no import and no export
pub include_keeps_imports : (context : Context) (root : Scope) (old : Body) (x : WorldInclude) (new : Body) (name : List ℕ) (w : Meaning) → HasInclude context root old x new → StandsFor old.imports name w → StandsFor new.imports name w
include_keeps_imports context root old x new name w p h =
    subst (λ (b : Body). StandsFor b.imports name w) (sym p.5.is)
    (steps_keep Takes (λ t. StandsFor t.there name w) (λ o y n has q. takes_keeps name w o y n has q) (record { entries = p.0; there = old.imports }) (imports_of (entry_of p.1)) p.5.imports h p.5.takes_imports)

pub include_keeps_exports : (context : Context) (root : Scope) (old : Body) (x : WorldInclude) (new : Body) (name : List ℕ) (w : Meaning) → HasInclude context root old x new → StandsFor old.exports name w → StandsFor new.exports name w
include_keeps_exports context root old x new name w p h =
    subst (λ (b : Body). StandsFor b.exports name w) (sym p.5.is)
    (steps_keep Takes (λ t. StandsFor t.there name w) (λ o y n has q. takes_keeps name w o y n has q) (record { entries = p.5.imports.entries; there = old.exports }) (exports_of (entry_of p.1)) p.5.exports h p.5.takes_exports)

takes_colons : (first last : Taking) (all : Named Meaning) → Steps Takes first all last → (before : Named Meaning) (n : List ℕ × Meaning) (after : Named Meaning) → all ≡ before ++ n ∷ after → has_colon n.0 ≡ true → (m : Meaning) × StandsFor last.there n.0 m
takes_colons first last all p before n after split colon =
    let r = steps_prefix Takes first before (n ∷ after) last (subst (λ (l : Named Meaning). Steps Takes first l last) split p) in
    let s = colon_stands r.0 n r.2.0 colon r.2.1 in
    (s.0, steps_keep Takes (λ t. StandsFor t.there n.0 s.0) (λ o y m has q. takes_keeps n.0 s.0 o y m has q) r.2.0 after last s.1 r.2.2)

-- what the included world imports or exports under a name with a colon is imported or exported afterwards
pub imports_colons : (entries : Entries) (world : Meaning) (old new : Body) → Included entries world old new → (before : Named Meaning) (n : List ℕ × Meaning) (after : Named Meaning) → imports_of world ≡ before ++ n ∷ after → has_colon n.0 ≡ true → (m : Meaning) × StandsFor new.imports n.0 m
imports_colons entries world old new p before n after split colon =
    let s = takes_colons (record { entries = entries; there = old.imports }) p.imports (imports_of world) p.takes_imports before n after split colon in
    (s.0, subst (λ (b : Body). StandsFor b.imports n.0 s.0) (sym p.is) s.1)

pub exports_colons : (entries : Entries) (world : Meaning) (old new : Body) → Included entries world old new → (before : Named Meaning) (n : List ℕ × Meaning) (after : Named Meaning) → exports_of world ≡ before ++ n ∷ after → has_colon n.0 ≡ true → (m : Meaning) × StandsFor new.exports n.0 m
exports_colons entries world old new p before n after split colon =
    let s = takes_colons (record { entries = p.imports.entries; there = old.exports }) p.exports (exports_of world) p.takes_exports before n after split colon in
    (s.0, subst (λ (b : Body). StandsFor b.exports n.0 s.0) (sym p.is) s.1)
