-- What holds of items that are taken in order.
use Rattle.wac_resolution_rules.proofs.Common.{◌≡◌, ◌<◌, ◌+◌, ℕ, suc, List, [], ◌∷◌, ◌++◌, map, take, drop, length, get_or, refl, sym, ◌∙◌, ap, subst, Steps, Fails}
use Rattle.std.proofs.lemmas.List.{take-append-drop, take_more, length-map, get_or-map}
use Rattle.std.proofs.Math.Seq.{drop-cons}

-- a step yields one state
abbrev pub IsOnce : {S X : Type 0} → (S → X → S → Type 0) → Type 0
IsOnce {S} {X} step = (old : S) (x : X) (a b : S) → step old x a → step old x b → a ≡ b

pub steps_once : {S X : Type 0} (step : S → X → S → Type 0) → IsOnce step → (old : S) (xs : List X) (a b : S) → Steps step old xs a → Steps step old xs b → a ≡ b
steps_once step once old [] a b p q = p ∙ sym q
steps_once {S} step once old (x ∷ xs) a b p q =
    let e : p.0 ≡ q.0 = once old x p.0 q.0 p.1 q.1 in
    steps_once step once q.0 xs a b (subst (λ (m : S). Steps step m xs a) e p.2) q.2

-- one more item
pub steps_more : {S X : Type 0} (step : S → X → S → Type 0) (old : S) (xs : List X) (x : X) (mid new : S) → Steps step old xs mid → step mid x new → Steps step old (xs ++ x ∷ []) new
steps_more {S} step old [] x mid new p g = (new, subst (λ (m : S). step m x new) p g, refl)
steps_more step old (y ∷ xs) x mid new p g = (p.0, p.1, steps_more step p.0 xs x mid new p.2 g)

-- items continue from the state that each prefix of them reaches
pub steps_prefix : {S X : Type 0} (step : S → X → S → Type 0) (old : S) (before after : List X) (new : S) → Steps step old (before ++ after) new → (mid : S) × Steps step old before mid × Steps step mid after new
steps_prefix step old [] after new p = (old, refl, p)
steps_prefix step old (x ∷ before) after new p = let r = steps_prefix step p.0 before after new p.2 in (r.0, (p.0, p.1, r.1), r.2)

-- items that are changed in a way that no step sees
pub steps_map : {S X : Type 0} (step : S → X → S → Type 0) (f : X → X) → ((old : S) (x : X) → step old (f x) ≡ step old x) → (old : S) (xs : List X) → Steps step old (map f xs) ≡ Steps step old xs
steps_map step f same old [] = refl
steps_map {S} step f same old (x ∷ xs) = λ i new. (mid : S) × same old x i mid × steps_map step f same mid xs i new

-- where an item is broken no state is reached, if a broken item has no step
pub fails_stop : {S X : Type 0} (step : S → X → S → Type 0) (broken : S → List X → X → Type 0) → IsOnce step
    → ((old : S) (before : List X) (x : X) (new : S) → broken old before x → step old x new → ⊥)
    → (old : S) (xs : List X) (new : S) → Fails step broken old xs → Steps step old xs new → ⊥
fails_stop {S} {X} step broken once stops old xs new f p =
    let r = steps_prefix step old f.before (f.failing ∷ f.after) new (subst (λ (l : List X). Steps step old l new) f.split p) in
    let same : r.0 ≡ f.reached = steps_once step once old f.before r.0 f.reached r.1 f.leads in
    stops f.reached f.before f.failing r.2.0 f.breaks (subst (λ (m : S). step m f.failing r.2.0) same r.2.1)

-- what each step keeps, items keep
pub steps_keep : {S X : Type 0} (step : S → X → S → Type 0) (P : S → Type 0) → ((old : S) (x : X) (new : S) → P old → step old x new → P new) → (old : S) (xs : List X) (new : S) → P old → Steps step old xs new → P new
steps_keep step P keep old [] new has p = subst P (sym p) has
steps_keep step P keep old (x ∷ xs) new has p = steps_keep step P keep p.0 xs new (keep old x p.0 has p.1) p.2

-- in a loop: the item at i takes one more step
pub steps_on : {S X : Type 0} (step : S → X → S → Type 0) (old : S) (xs : List X) (i : ℕ) (d : X) (mid new : S) → i < length xs → Steps step old (take i xs) mid → step mid (get_or xs i d) new → Steps step old (take (i + 1) xs) new
steps_on step old xs i d mid new within front goes = rw (take_more xs i d within) (steps_more step old (take i xs) (get_or xs i d) mid new front goes)

-- in a loop: the item at i is broken
pub fails_at : {S X : Type 0} (step : S → X → S → Type 0) (broken : S → List X → X → Type 0) (old : S) (xs : List X) (i : ℕ) (d : X) (mid : S) → i < length xs → Steps step old (take i xs) mid → broken mid (take i xs) (get_or xs i d) → Fails step broken old xs
fails_at {S} {X} step broken old xs i d mid within front breaks = record {
  before = take i xs;
  failing = get_or xs i d;
  after = drop (suc i) xs;
  split = sym (take-append-drop i xs) ∙ ap (λ (r : List X). take i xs ++ r) (drop-cons xs i d within);
  reached = mid;
  leads = front;
  breaks = breaks;
}

-- the same in a loop over the values whose trees are the items
pub steps_on_map : {S X Y : Type 0} (step : S → X → S → Type 0) (f : Y → X) (old : S) (ys : List Y) (i : ℕ) (d : Y) (mid new : S) → i < length ys → Steps step old (take i (map f ys)) mid → step mid (f (get_or ys i d)) new → Steps step old (take (i + 1) (map f ys)) new
steps_on_map step f old ys i d mid new within front goes =
    steps_on step old (map f ys) i (f d) mid new (subst (λ (n : ℕ). i < n) (sym (length-map ys f)) within) front (subst (λ x. step mid x new) (sym (get_or-map f ys i d (f d) within)) goes)

pub fails_at_map : {S X Y : Type 0} (step : S → X → S → Type 0) (broken : S → List X → X → Type 0) (f : Y → X) (old : S) (ys : List Y) (i : ℕ) (d : Y) (mid : S) → i < length ys → Steps step old (take i (map f ys)) mid → broken mid (take i (map f ys)) (f (get_or ys i d)) → Fails step broken old (map f ys)
fails_at_map step broken f old ys i d mid within front breaks =
    fails_at step broken old (map f ys) i (f d) mid (subst (λ (n : ℕ). i < n) (sym (length-map ys f)) within) front (subst (λ x. broken mid (take i (map f ys)) x) (sym (get_or-map f ys i d (f d) within)) breaks)
