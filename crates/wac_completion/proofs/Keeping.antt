-- One kind after another is kept or left out.
use Rattle.std.proofs.Common.{◌≡◌, refl, sym, subst, ℕ, ◌+◌, ◌<◌, ◌≤◌, List, [], ◌∷◌, ◌++◌, length, drop, get_or, suc, ap, ◌∙◌, inl, inr, arith}
use Rattle.std.proofs.Math.Seq.{drop-cons}
use Rattle.std.specs.Prelude.{◌⊎◌, Option, Some, None, MatchOption, Result, Ok, Err, IfOk}
use Rattle.std.proofs.lemmas.List.{append-nil, append_assoc, drop_all}
use Rattle.wac_lexer.specs.declared.token.Token.{Token}
use Rattle.wac_comments_layout.specs.Nesting.{too_deep}
use Rattle.wac_completion.specs.Kinds.{kinds}
use Rattle.wac_completion.specs.Standing.{AreKinds, CanFollow, Kept}

-- what is kept of the rest, after these, is what is kept of all
abbrev pub KeepsOn : (Token → Type 0) → List Token → List Token → List Token → Type 0
KeepsOn P all rest found = (more : List Token) → Kept P rest more → Kept P all (found ++ more)

pub begins : (P : Token → Type 0) (all : List Token) → KeepsOn P all all []
begins P all more h = h

pub one_more : (P : Token → Type 0) (all rest found : List Token) (k : Token) → KeepsOn P all (k ∷ rest) found → P k → KeepsOn P all rest (found ++ (k ∷ []))
one_more P all rest found k so_far holds more h =
    subst (Kept P all) (sym (append_assoc found (k ∷ []) more)) (so_far (k ∷ more) (inl (more, refl, holds, h)))

pub one_less : (P : Token → Type 0) (all rest found : List Token) (k : Token) → KeepsOn P all (k ∷ rest) found → ¬ (P k) → KeepsOn P all rest found
one_less P all rest found k so_far not more h = so_far more (inr (not, h))

pub ends : (P : Token → Type 0) (all found : List Token) → KeepsOn P all [] found → Kept P all found
ends P all found so_far = subst (Kept P all) (append-nil found) (so_far [] refl)

drop_at : (ks : List Token) (i : ℕ) (k : Token) → i < length ks → drop i ks ≡ get_or ks i k ∷ drop (i + 1) ks
drop_at ks i k h =
    let e : i + 1 ≡ suc i = omega arith in
    drop-cons ks i k h ∙ ap (λ (n : ℕ). get_or ks i k ∷ drop n ks) (sym e)

-- the one at a place
pub kept_one : (P : Token → Type 0) (all found new : List Token) (i : ℕ) (d : Token) → KeepsOn P all (drop i all) found → i < length all → P (get_or all i d) → new ≡ found ++ (get_or all i d ∷ [])
    → KeepsOn P all (drop (i + 1) all) new
kept_one P all found new i d so_far within holds added =
    subst (KeepsOn P all (drop (i + 1) all)) (sym added)
    (one_more P all (drop (i + 1) all) found (get_or all i d) (subst (λ (xs : List Token). KeepsOn P all xs found) (drop_at all i d within) so_far) holds)

pub kept_none : (P : Token → Type 0) (all found : List Token) (i : ℕ) (d : Token) → KeepsOn P all (drop i all) found → i < length all → ¬ (P (get_or all i d)) → KeepsOn P all (drop (i + 1) all) found
kept_none P all found i d so_far within not =
    one_less P all (drop (i + 1) all) found (get_or all i d) (subst (λ (xs : List Token). KeepsOn P all xs found) (drop_at all i d within) so_far) not

pub kept_all : (P : Token → Type 0) (all found : List Token) (i : ℕ) → KeepsOn P all (drop i all) found → length all ≤ i → Kept P all found
kept_all P all found i so_far over = ends P all found (subst (λ (xs : List Token). KeepsOn P all xs found) (drop_all i all over) so_far)

-- where there is nothing, the first holds
of_nothing : {X E S : Type 0} (r : Result X E) (o : Option S) (P : X → Type 0) (Q : X → S → Type 0) → None ≡ o → IfOk r P → IfOk r (λ v. MatchOption o (P v) (Q v))
of_nothing (Err e) o P Q none h = tt
of_nothing (Ok v) None P Q none h = h
of_nothing (Ok v) (Some s) P Q none h = absurd cc

-- of a text whose brackets aren't nested too deeply
pub kinds_of_flat : {X E : Type 0} (text : List ℕ) (r : Result X E) (items : X → List Token) → None ≡ too_deep text → IfOk r (λ v. Kept (CanFollow text) kinds (items v)) → IfOk r (λ v. AreKinds text (items v))
kinds_of_flat text r items flat h = of_nothing r (too_deep text) (λ v. Kept (CanFollow text) kinds (items v)) (λ v bracket. items v ≡ []) flat h
