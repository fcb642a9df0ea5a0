-- What is found among names that are bound, and among names with one more.
use Rattle.wac_resolution_types.proofs.Common.{◌≡◌, ◌∙◌, ℕ, List, Option, Some, None, refl, sym, ap, option_map, Span, look_up, IsFresh, Bindings, places_of, values_of}
use Rattle.wac_resolution_state.proofs.Bound.{read_found}

-- ---- options

mapped_none : {X Y : Type 0} (f : X → Y) (o : Option X) → option_map f o ≡ None → o ≡ None
mapped_none f None h = refl
mapped_none f (Some x) h = absurd (cc)

mapped_some : {X Y : Type 0} (f : X → Y) (o : Option X) (y : Y) → option_map f o ≡ Some y → (x : X) × (o ≡ Some x)
mapped_some f None y h = absurd (cc)
mapped_some f (Some x) y h = (x, refl)

-- ---- bindings

-- what is new among the values is new among the bindings
pub value_fresh : {X : Type 0} (name : List ℕ) (all : Bindings X) → IsFresh name (values_of all) → IsFresh name all
value_fresh name all h = mapped_none (λ b. b.1) (look_up name all) (sym (read_found (λ b. b.1) name all) ∙ h)

pub fresh_value : {X : Type 0} (name : List ℕ) (all : Bindings X) → IsFresh name all → IsFresh name (values_of all)
fresh_value {X} name all h = read_found (λ b. b.1) name all ∙ ap (option_map (λ (b : Span × X). b.1)) h

-- what has no place denotes nothing
pub unplaced : {X : Type 0} (name : List ℕ) (all : Bindings X) → look_up name (places_of all) ≡ None → IsFresh name (values_of all)
unplaced name all h = fresh_value name all (mapped_none (λ b. b.0) (look_up name all) (sym (read_found (λ b. b.0) name all) ∙ h))

-- what has a place denotes something
pub placed : {X : Type 0} (name : List ℕ) (all : Bindings X) (at : Span) → look_up name (places_of all) ≡ Some at → (x : X) × (look_up name (values_of all) ≡ Some x)
placed {X} name all at h =
    let found = mapped_some (λ b. b.0) (look_up name all) at (sym (read_found (λ b. b.0) name all) ∙ h) in
    (found.0.1, read_found (λ b. b.1) name all ∙ ap (option_map (λ (b : Span × X). b.1)) found.1)
