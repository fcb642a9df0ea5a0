-- Which world is chosen.
use Rattle.wac_declared_packages.proofs.Common.{◌≡◌, ◌∙◌, ℕ, Some, None, List, [], ◌∷◌, ◌++◌, length, refl, sym, ap, arith, append_assoc, append-nil, get_or, ItemKind, WorldId, Named}
use Rattle.wac_declared_packages.specs.Definitions.{listed, sole, world_of, worlds_in}

-- one definition more was gone over
pub worlds_step : (rest left : Named ItemKind) (d : List ℕ × ItemKind) (found next : List WorldId) (all : List WorldId) → rest ≡ d ∷ left → next ≡ found ++ listed (world_of d.1)
    → found ++ worlds_in rest ≡ all → next ++ worlds_in left ≡ all
worlds_step rest left d found next all is new so_far =
    let assoc : (found ++ listed (world_of d.1)) ++ worlds_in left ≡ found ++ (listed (world_of d.1) ++ worlds_in left) = simp append_assoc in
    ap (λ (l : List WorldId). l ++ worlds_in left) new ∙ assoc ∙ ap (λ (l : Named ItemKind). found ++ worlds_in l) (sym is) ∙ so_far

pub worlds_end : (rest : Named ItemKind) (found all : List WorldId) → rest ≡ [] → found ++ worlds_in rest ≡ all → found ≡ all
worlds_end rest found all is so_far =
    let nil : found ++ [] ≡ found = simp append-nil in
    sym nil ∙ ap (λ (l : Named ItemKind). found ++ worlds_in l) (sym is) ∙ so_far

pub sole_one : (ws : List WorldId) (d : WorldId) → length ws ≡ 1 → Some (get_or ws 0 d) ≡ sole ws
sole_one [] d len = absurd (omega arith)
sole_one (w ∷ []) d len = refl
sole_one (w ∷ v ∷ ws) d len = absurd (omega arith)

pub sole_none : (ws : List WorldId) → (length ws ≡ 1 → ⊥) → None ≡ sole ws
sole_none [] other = refl
sole_none (w ∷ []) other = absurd (other refl)
sole_none (w ∷ v ∷ ws) other = refl
