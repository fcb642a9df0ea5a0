-- All pairs in slots mean the same, also after others are added.
use Rattle.wac_graph_types.proofs.Common.{◌≡◌, ℕ, zero, suc, List, Some, ap, refl, subst, set, replicate, slice_get, slice_get_within, get_or_from_slice_get}
use Rattle.std.proofs.lemmas.List.Elements.{All-replicate, All-set}
use Rattle.wac_graph_types.specs.declared.entry.Entry.{Entry}
use Rattle.wac_graph_types.specs.Meaning.{Alike}
use Rattle.wac_graph_types.specs.Pairs.{AreAlike}

pub first_alone : (es : List Entry) (n : ℕ) → AreAlike es (replicate n (0, 0))
first_alone es n = record { each = All-replicate (λ (p : ℕ × ℕ). Alike es p.0 p.1) n (0, 0) (λ o one. refl) }

pub alike_at : (es : List Entry) (pairs : List (ℕ × ℕ)) (k : ℕ) (p : ℕ × ℕ) → AreAlike es pairs → slice_get pairs k ≡ Some p → Alike es p.0 p.1
alike_at es pairs k p all is = subst (λ (q : ℕ × ℕ). Alike es q.0 q.1) (get_or_from_slice_get pairs k p p is) (all.each k p (slice_get_within pairs k p is))

pub alike_set : (es : List Entry) (pairs : List (ℕ × ℕ)) (k : ℕ) (p : ℕ × ℕ) → AreAlike es pairs → Alike es p.0 p.1 → AreAlike es (set pairs k p)
alike_set es pairs k p all same = record { each = All-set (λ (q : ℕ × ℕ). Alike es q.0 q.1) pairs k p same all.each }

alone : (n k : ℕ) (x y : ℕ × ℕ) → slice_get (replicate n x) k ≡ Some y → y ≡ x
alone zero k x y h = absurd (cc)
alone (suc n) zero x y h = cc
alone (suc n) (suc k) x y h = alone n k x y h

-- among zeros there is no other pair
pub zeros_alone : (n k i j : ℕ) → slice_get {X = ℕ × ℕ} (replicate n (0, 0)) k ≡ Some (i, j) → (i ≡ 0) × (j ≡ 0)
zeros_alone n k i j h = (let is : (let p : ℕ × ℕ = (i, j) in p) ≡ (0, 0) = alone n k (0, 0) (i, j) h in (ap (λ (p : ℕ × ℕ). p.0) is, ap (λ (p : ℕ × ℕ). p.1) is))
