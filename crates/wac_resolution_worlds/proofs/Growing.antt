-- Bodies as they take items in order, in a graph that may get packages too.
use Rattle.wac_resolution_worlds.proofs.Common.{◌≡◌, ◌∙◌, ◌+◌, ◌<◌, ℕ, List, [], ◌∷◌, ◌++◌, refl, sym, ap, subst, map, take, length, get_or, append_assoc, append-nil, flat_map_more, take_more, length-map, get_or-map, flat_map, Span, ExternKind, ItemKind, PackageParts, Named, Scope, Steps, Fails, ItemsNamed, Parts, Numbering, Key, Body, places_of, scope_of, AllSupplied, expands_self, expands_on, grows_expands, supplied_grown, scope_expanded, Lists, body_in, IsBody, BodyStep}
use Rattle.wac_resolution_rules.proofs.StepLaws.{steps_on_map, fails_at_map}
use Rattle.wac_resolution_worlds.specs.UseStatements.{BodyExpands}

-- how an item takes one body to the next, under a numbering and with these names at root
abbrev pub RootStep : Type 0 → Type 1
RootStep X = Numbering → Scope → Body → X → Body → Type 0

-- a graph that got types alone
pub goes_expand : (packages : List (Key × PackageParts)) (side : ExternKind) (old new : Parts) (b c : Lists) (bound : Named Span) (before after : Numbering → Body → Body → Type 0)
    → ((numbering : Numbering) (x y : Body) → before numbering x y → after numbering x y) → AllSupplied packages old → BodyStep side old new b c bound before → BodyExpands packages side old new b c bound after
goes_expand packages side old new b c bound before after follows held h = record {
  grows = grows_expands old new h.grows;
  supplied = supplied_grown packages old new h.grows held;
  body = h.body;
  places = h.places;
  goes = λ numbering. follows numbering (body_in numbering old b) (body_in numbering new c) (h.goes numbering);
}

no_more : {X : Type 0} (xs : List X) → xs ≡ xs ++ []
no_more xs = (let nil : xs ++ [] ≡ xs = simp append-nil in sym nil)

-- nothing was taken yet
pub none_expand : {X : Type 0} (packages : List (Key × PackageParts)) (step : RootStep X) (side : ExternKind) (g : Parts) (root : Named ItemKind) (b : Lists) → AllSupplied packages g → IsBody g.types side b
    → BodyExpands packages side g g b b [] (λ numbering before after. Steps (step numbering (scope_of numbering g root)) before [] after)
none_expand packages step side g root b held h = record { grows = expands_self g; supplied = held; body = h; places = no_more (places_of b.names); goes = λ numbering. refl }

-- what one more item binds
pub bound_more : {X Y : Type 0} (bound : X → Named Span) (f : Y → X) (ys : List Y) (i : ℕ) (y : Y) → i < length ys → y ≡ get_or ys i y → flat_map bound (take (i + 1) (map f ys)) ≡ flat_map bound (take i (map f ys)) ++ bound (f y)
bound_more {X} {Y} bound f ys i y within at =
    let inside : i < length (map f ys) = subst (λ (n : ℕ). i < n) (sym (length-map ys f)) within in
    let one : get_or (map f ys) i (f y) ≡ f y = get_or-map f ys i y (f y) within ∙ sym (ap f at) in
    ap (flat_map bound) (take_more (map f ys) i (f y) inside ∙ ap (λ (x : X). take i (map f ys) ++ x ∷ []) one)
    ∙ sym (flat_map_more bound [] (take i (map f ys)) (f y))

-- the items up to the next one
pub items_step : {X Y : Type 0} (packages : List (Key × PackageParts)) (step : RootStep X) (bound : X → Named Span) (f : Y → X) (side : ExternKind) (old mid new : Parts) (root : Named ItemKind) (b c d : Lists) (ys : List Y) (i : ℕ) (y : Y)
    → i < length ys → y ≡ get_or ys i y → ItemsNamed old.types root
    → BodyExpands packages side old mid b c (flat_map bound (take i (map f ys))) (λ numbering before after. Steps (step numbering (scope_of numbering old root)) before (take i (map f ys)) after)
    → BodyExpands packages side mid new c d (bound (f y)) (λ numbering before after. step numbering (scope_of numbering mid root) before (f y) after)
    → BodyExpands packages side old new b d (flat_map bound (take (i + 1) (map f ys))) (λ numbering before after. Steps (step numbering (scope_of numbering old root)) before (take (i + 1) (map f ys)) after)
items_step {X} {Y} packages step bound f side old mid new root b c d ys i y within at named p q = record {
  grows = expands_on old mid new p.grows q.grows;
  supplied = q.supplied;
  body = q.body;
  places = q.places ∙ ap (λ (l : Named Span). l ++ bound (f y)) p.places ∙ append_assoc (places_of b.names) (flat_map bound (take i (map f ys))) (bound (f y))
      ∙ ap (λ (l : Named Span). places_of b.names ++ l) (sym (bound_more bound f ys i y within at));
  goes = λ numbering.
      let one : step numbering (scope_of numbering old root) (body_in numbering mid c) (f y) (body_in numbering new d)
      = subst (λ (s : Scope). step numbering s (body_in numbering mid c) (f y) (body_in numbering new d)) (scope_expanded old mid root numbering p.grows named) (q.goes numbering) in
      steps_on_map (step numbering (scope_of numbering old root)) f (body_in numbering old b) ys i y (body_in numbering mid c) (body_in numbering new d) within (p.goes numbering)
      (subst (λ (z : Y). step numbering (scope_of numbering old root) (body_in numbering mid c) (f z) (body_in numbering new d)) at one);
}

-- all items
pub items_all : {X : Type 0} (packages : List (Key × PackageParts)) (step : RootStep X) (bound : X → Named Span) (side : ExternKind) (old new : Parts) (root : Named ItemKind) (b c : Lists) (xs ys : List X) → xs ≡ ys
    → BodyExpands packages side old new b c (flat_map bound xs) (λ numbering before after. Steps (step numbering (scope_of numbering old root)) before xs after)
    → BodyExpands packages side old new b c (flat_map bound ys) (λ numbering before after. Steps (step numbering (scope_of numbering old root)) before ys after)
items_all {X} packages step bound side old new root b c xs ys is h =
    subst (λ (l : List X). BodyExpands packages side old new b c (flat_map bound l) (λ numbering before after. Steps (step numbering (scope_of numbering old root)) before l after)) is h

-- the next item is broken
pub items_break : {X Y : Type 0} (packages : List (Key × PackageParts)) (step : RootStep X) (broken : Numbering → Scope → Body → List X → X → Type 0) (bound : X → Named Span) (f : Y → X) (side : ExternKind) (old mid : Parts) (root : Named ItemKind) (b c : Lists) (ys : List Y) (i : ℕ) (y : Y)
    → i < length ys → y ≡ get_or ys i y → ItemsNamed old.types root → places_of b.names ≡ []
    → BodyExpands packages side old mid b c (flat_map bound (take i (map f ys))) (λ numbering before after. Steps (step numbering (scope_of numbering old root)) before (take i (map f ys)) after)
    → ((numbering : Numbering) (before : List X) → places_of c.names ≡ flat_map bound before → broken numbering (scope_of numbering mid root) (body_in numbering mid c) before (f y))
    → (numbering : Numbering) → Fails (step numbering (scope_of numbering old root)) (broken numbering (scope_of numbering old root)) (body_in numbering old b) (map f ys)
items_break {X} {Y} packages step broken bound f side old mid root b c ys i y within at named empty p breaks numbering =
    let places : places_of c.names ≡ flat_map bound (take i (map f ys)) = p.places ∙ ap (λ (l : Named Span). l ++ flat_map bound (take i (map f ys))) empty in
    let one : broken numbering (scope_of numbering old root) (body_in numbering mid c) (take i (map f ys)) (f y)
    = subst (λ (s : Scope). broken numbering s (body_in numbering mid c) (take i (map f ys)) (f y)) (scope_expanded old mid root numbering p.grows named) (breaks numbering (take i (map f ys)) places) in
    fails_at_map (step numbering (scope_of numbering old root)) (broken numbering (scope_of numbering old root)) f (body_in numbering old b) ys i y (body_in numbering mid c) within (p.goes numbering)
    (subst (λ (z : Y). broken numbering (scope_of numbering old root) (body_in numbering mid c) (take i (map f ys)) (f z)) at one)
