-- A test of each element, place by place: what is left decides.
use Rattle.wac_graph_types.proofs.Common.{◌≡◌, ◌+◌, ℕ, suc, List, [], ◌∷◌, length, drop, sym, Some, subst, add-one, slice_get, AllByRecursion}
use Rattle.wac_graph_types.specs.Meaning.{EachFrom}
use Rattle.wac_graph_types.proofs.Rows.{drop_some, drop_past}

-- all pass if and only if those from place k do
pub record RestPasses {X : Type 0} (P : ℕ → X → Type 0) (xs : List X) (k : ℕ) : Type 0 where
  pub whole : EachFrom P k (drop k xs) → EachFrom P 0 xs
  pub rest : EachFrom P 0 xs → EachFrom P k (drop k xs)

pub rest_passes_start : {X : Type 0} (P : ℕ → X → Type 0) (xs : List X) → RestPasses P xs 0
rest_passes_start P xs = record { whole = λ h. h; rest = λ h. h }

pub rest_passes_step : {X : Type 0} (P : ℕ → X → Type 0) (xs : List X) (k : ℕ) (x : X)
    → slice_get xs k ≡ Some x → P k x → RestPasses P xs k → RestPasses P xs (k + 1)
rest_passes_step {X} P xs k x is here r = rw add-one (
    let e : drop k xs ≡ x ∷ drop (suc k) xs = drop_some xs k x is in
    record {
      whole = λ h. r.whole (subst (λ (l : List X). EachFrom P k l) (sym e) (here, h));
      rest = λ h. (subst (λ (l : List X). EachFrom P k l) e (r.rest h)).1;
    })

pub rest_passes_fails : {X : Type 0} (P : ℕ → X → Type 0) (xs : List X) (k : ℕ) (x : X)
    → slice_get xs k ≡ Some x → (P k x → ⊥) → RestPasses P xs k → EachFrom P 0 xs → ⊥
rest_passes_fails {X} P xs k x is deny r h =
    deny ((subst (λ (l : List X). EachFrom P k l) (drop_some xs k x is) (r.rest h)).0)

pub rest_passes_end : {X : Type 0} (P : ℕ → X → Type 0) (xs : List X) (k : ℕ) → length xs ≡ k → RestPasses P xs k → EachFrom P 0 xs
rest_passes_end {X} P xs k len r =
    let e : drop k xs ≡ [] = subst (λ (n : ℕ). drop n xs ≡ []) len (drop_past xs) in
    r.whole (subst (λ (l : List X). EachFrom P k l) (sym e) tt)

-- with and without numbers
pub each_all : {X : Type 0} (P : X → Type 0) (n : ℕ) (xs : List X) → EachFrom (λ _ x. P x) n xs → AllByRecursion P xs
each_all P n [] h = tt
each_all P n (x ∷ xs) h = (h.0, each_all P (suc n) xs h.1)

pub all_each : {X : Type 0} (P : X → Type 0) (n : ℕ) (xs : List X) → AllByRecursion P xs → EachFrom (λ _ x. P x) n xs
all_each P n [] h = tt
all_each P n (x ∷ xs) h = (h.0, all_each P (suc n) xs h.1)
