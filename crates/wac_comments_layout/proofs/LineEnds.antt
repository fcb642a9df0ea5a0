-- Line ends that stay as they are.
use Rattle.wac_comments_layout.proofs.Common.{◌≡◌, ℕ, Bool, true, false, cond, List, [], ◌∷◌, ◌++◌, sym, refl, ap, ◌∙◌, ◌&&◌, nat_eq, not, bytes_eq, and_parts, eqb-true, bytes_eq_is}
use Rattle.wac_comments_layout.specs.Plain.{is_line_end, with_line_ends}

with_same : (quoted : Bool) (text : List ℕ) → with_line_ends (10 ∷ []) quoted text ≡ text
with_same quoted [] = refl
with_same quoted (b ∷ text) = go (is_line_end b && not quoted) refl (with_same (cond (nat_eq b 34) (not quoted) quoted) text)
  where
    rest : List ℕ
    rest = with_line_ends (10 ∷ []) (cond (nat_eq b 34) (not quoted) quoted) text

    go : (ends : Bool) → (is_line_end b && not quoted) ≡ ends → rest ≡ text → with_line_ends (10 ∷ []) quoted (b ∷ text) ≡ b ∷ text
    go false e later = ap (λ t. cond t (10 ∷ []) (b ∷ []) ++ rest) e ∙ ap (λ t. b ∷ t) later
    go true e later =
        let same : 10 ≡ b = sym (eqb-true b 10 (and_parts (is_line_end b) (not quoted) e).0) in
        ap (λ t. cond t (10 ∷ []) (b ∷ []) ++ rest) e ∙ (λ i. same i ∷ later i)

-- where line ends become LF, a text stays as it is
pub ends_stay : (end text : List ℕ) → bytes_eq end (10 ∷ []) ≡ true → text ≡ with_line_ends end false text
ends_stay end text same = sym (ap (λ e. with_line_ends e false text) (bytes_eq_is end (10 ∷ []) same) ∙ with_same false text)
