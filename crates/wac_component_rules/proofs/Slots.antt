-- A first part in a slot is looked up place by place.
use Rattle.std.proofs.Common.{◌≡◌, ◌∙◌, ◌+◌, ℕ, suc, List, [], length, drop, sym, ap, Option, Some, None, subst, add-one, Bool, true, false, cond}
use Rattle.std.specs.Prelude.{slice_get, unwrap_or}
use Rattle.std.specs.Map.{lookup}
use Rattle.wac_graph_types.specs.declared.kind.ItemKind.{ItemKind}
use Rattle.wac_graph_types.specs.declared.entry.Entry.{Entry}
use Rattle.wac_graph_types.specs.Entry.{Slot}
use Rattle.wac_graph_types.proofs.Rows.{drop_some, drop_past}
use Rattle.wac_component_rules.specs.Fits.{same_slot}
use Rattle.wac_component_rules.specs.Parts.{parts_of}
use Rattle.wac_component_rules.proofs.Turning.{slot_same, slot_differs}
use Rattle.wac_component_rules.specs.Paths.{of_slot}

-- what is looked up is among what is left from place k
abbrev pub RestLooked : {K X : Type 0} → (K → Bool) → List (K × X) → ℕ → Type 0
RestLooked test xs k = lookup test (drop k xs) ≡ lookup test xs

here : {K X : Type 0} (test : K → Bool) (xs : List (K × X)) (k : ℕ) (x : K × X) (b : Bool) → slice_get xs k ≡ Some x → test x.0 ≡ b
    → lookup test (drop k xs) ≡ cond b (Some x.1) (lookup test (drop (suc k) xs))
here {K} {X} test xs k x b is same =
    ap (lookup test) (drop_some xs k x is) ∙ ap (λ (c : Bool). cond c (Some x.1) (lookup test (drop (suc k) xs))) same

pub looked_step : {K X : Type 0} (test : K → Bool) (xs : List (K × X)) (k : ℕ) (x : K × X) → slice_get xs k ≡ Some x → test x.0 ≡ false → RestLooked test xs k → RestLooked test xs (k + 1)
looked_step test xs k x is other r = rw add-one (sym (here test xs k x false is other) ∙ r)

pub looked_found : {K X : Type 0} (test : K → Bool) (xs : List (K × X)) (k : ℕ) (x : K × X) → slice_get xs k ≡ Some x → test x.0 ≡ true → RestLooked test xs k → lookup test xs ≡ Some x.1
looked_found test xs k x is same r = sym r ∙ here test xs k x true is same

pub looked_end : {K X : Type 0} (test : K → Bool) (xs : List (K × X)) (k : ℕ) → length xs ≡ k → RestLooked test xs k → lookup test xs ≡ None
looked_end {K} {X} test xs k len r =
    let e : drop k xs ≡ [] = subst (λ (n : ℕ). drop n xs ≡ []) len (drop_past xs) in
    sym r ∙ ap (λ (l : List (K × X)). lookup test l) e

-- ---- parts of an entry

abbrev pub RestOfParts : Slot → Entry → ℕ → Type 0
RestOfParts s e k = RestLooked (λ t. same_slot s t) (parts_of e) k

pub slot_found : (s : Slot) (e : Entry) (k : ℕ) (p : Slot × Option ItemKind) → slice_get (parts_of e) k ≡ Some p → p.0 ≡ s → RestOfParts s e k → p.1 ≡ of_slot s e
slot_found s e k p is same r =
    sym (ap (λ (o : Option (Option ItemKind)). unwrap_or o None) (looked_found (λ t. same_slot s t) (parts_of e) k p is (slot_same s p.0 (sym same)) r))

pub slot_differs_here : (s : Slot) (e : Entry) (k : ℕ) (p : Slot × Option ItemKind) → slice_get (parts_of e) k ≡ Some p → (p.0 ≡ s → ⊥) → RestOfParts s e k → RestOfParts s e (k + 1)
slot_differs_here s e k p is other r = looked_step (λ t. same_slot s t) (parts_of e) k p is (slot_differs s p.0 (λ same. other (sym same))) r

pub slot_missing : (s : Slot) (e : Entry) (k : ℕ) → length (parts_of e) ≡ k → RestOfParts s e k → None ≡ of_slot s e
slot_missing s e k len r = sym (ap (λ (o : Option (Option ItemKind)). unwrap_or o None) (looked_end (λ t. same_slot s t) (parts_of e) k len r))
