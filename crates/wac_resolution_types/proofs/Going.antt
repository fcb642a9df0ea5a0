-- Bodies as they take items in order.
use Rattle.wac_resolution_types.proofs.Common.{◌≡◌, ◌∙◌, ◌+◌, ◌<◌, ℕ, List, [], ◌++◌, refl, sym, ap, subst, map, take, length, get_or, append_assoc, append-nil, Span, ExternKind, Named, Steps, Fails, Parts, Numbering, Body, places_of, grows_self, grows_on}
use Rattle.wac_resolution_rules.proofs.StepLaws.{steps_on_map, fails_at_map}
use Rattle.wac_resolution_types.specs.Lists.{Lists}
use Rattle.wac_resolution_types.specs.Bodies.{body_in, IsBody, BodyStep}

-- how an item takes one body to the next, under a numbering
abbrev pub ItemStep : Type 0 → Type 1
ItemStep X = Numbering → Body → X → Body → Type 0

no_more : {X : Type 0} (xs : List X) → xs ≡ xs ++ []
no_more xs = (let nil : xs ++ [] ≡ xs = simp append-nil in sym nil)

-- nothing was taken yet
pub none_go : {X : Type 0} (step : ItemStep X) (side : ExternKind) (g : Parts) (b : Lists) → IsBody g.types side b → BodyStep side g g b b [] (λ numbering before after. Steps (step numbering) before [] after)
none_go step side g b h = record { grows = (grows_self g).grows; body = h; places = no_more (places_of b.names); goes = λ numbering. refl }

-- the items up to the next one
pub items_step : {X Y : Type 0} (step : ItemStep X) (f : Y → X) (side : ExternKind) (old mid new : Parts) (b c d : Lists) (places more all : Named Span) (ys : List Y) (i : ℕ) (y : Y)
    → i < length ys → y ≡ get_or ys i y → all ≡ places ++ more
    → BodyStep side old mid b c places (λ numbering before after. Steps (step numbering) before (take i (map f ys)) after)
    → BodyStep side mid new c d more (λ numbering before after. step numbering before (f y) after)
    → BodyStep side old new b d all (λ numbering before after. Steps (step numbering) before (take (i + 1) (map f ys)) after)
items_step {X} {Y} step f side old mid new b c d places more all ys i y within at together p q = record {
  grows = grows_on old mid new p.grows q.grows;
  body = q.body;
  places = q.places ∙ ap (λ (l : Named Span). l ++ more) p.places ∙ append_assoc (places_of b.names) places more ∙ ap (λ (l : Named Span). places_of b.names ++ l) (sym together);
  goes = λ numbering.
      steps_on_map (step numbering) f (body_in numbering old b) ys i y (body_in numbering mid c) (body_in numbering new d) within (p.goes numbering)
      (subst (λ (z : Y). step numbering (body_in numbering mid c) (f z) (body_in numbering new d)) at (q.goes numbering));
}

-- all items
pub items_all : {X : Type 0} (step : ItemStep X) (side : ExternKind) (old new : Parts) (b c : Lists) (places : Named Span) (xs ys : List X) → xs ≡ ys
    → BodyStep side old new b c places (λ numbering before after. Steps (step numbering) before xs after) → BodyStep side old new b c places (λ numbering before after. Steps (step numbering) before ys after)
items_all {X} step side old new b c places xs ys is h = subst (λ (l : List X). BodyStep side old new b c places (λ numbering before after. Steps (step numbering) before l after)) is h

-- the next item is broken
pub items_break : {X Y : Type 0} (step : ItemStep X) (broken : Numbering → Body → List X → X → Type 0) (f : Y → X) (side : ExternKind) (old mid : Parts) (b c : Lists) (places : Named Span) (ys : List Y) (i : ℕ) (y : Y)
    → i < length ys → y ≡ get_or ys i y
    → BodyStep side old mid b c places (λ numbering before after. Steps (step numbering) before (take i (map f ys)) after)
    → ((numbering : Numbering) (before : List X) → broken numbering (body_in numbering mid c) before (f y))
    → (numbering : Numbering) → Fails (step numbering) (broken numbering) (body_in numbering old b) (map f ys)
items_break {X} {Y} step broken f side old mid b c places ys i y within at p breaks numbering =
    fails_at_map (step numbering) (broken numbering) f (body_in numbering old b) ys i y (body_in numbering mid c) within (p.goes numbering)
    (subst (λ (z : Y). broken numbering (body_in numbering mid c) (take i (map f ys)) (f z)) at (breaks numbering (take i (map f ys))))
