-- The tokens that a lookahead keeps fill the first of its places.
use Rattle.wac_ast_base.proofs.Common.{◌≡◌, ℕ, zero, suc, ◌+◌, ◌<◌, ◌≤◌, List, [], ◌∷◌, ◌++◌, take, length, min, Option, Some, slice_set, arith, refl, ap, subst, ◌∙◌, length-append, ◌⊎◌, inl, inr, ◌^◌, ◌-◌, take-append-le, take_all, Token}
use Rattle.std.proofs.Common.{sym}
use Rattle.wac_ast_base.specs.Error.{places}
use Rattle.wac_ast_base.specs.Lookahead.{kept_in}

none_kept : (n : ℕ) → kept_in (places n []) ≡ []
none_kept zero = refl
none_kept (suc n) = none_kept n

kept_places : (n : ℕ) (tokens : List Token) → length tokens ≤ n → kept_in (places n tokens) ≡ tokens
kept_places zero [] few = refl
kept_places zero (token ∷ tokens) few = absurd (omega arith)
kept_places (suc n) [] few = none_kept n
kept_places (suc n) (token ∷ tokens) few = ap (λ l. token ∷ l) (kept_places n tokens (omega arith))

set_place : (n : ℕ) (tokens : List Token) (token : Token) → slice_set (places n tokens) (length tokens) (Some token) ≡ places n (tokens ++ token ∷ [])
set_place zero [] token = refl
set_place zero (t ∷ tokens) token = refl
set_place (suc n) [] token = refl
set_place (suc n) (t ∷ tokens) token = ap (λ l. Some t ∷ l) (set_place n tokens token)

-- what a lookahead's places are after another token was tried
pub record Keeps (old new : List (Option Token)) (token : Token) (count : ℕ) : Type 0 where
  pub kept : kept_in new ≡ take 10 (kept_in old ++ token ∷ [])
  pub in_front : new ≡ places 10 (kept_in new)
  pub counted : length (kept_in new) ≡ min count 10

pub keeps_more : (old : List (Option Token)) (count : ℕ) (token : Token) → old ≡ places 10 (kept_in old) → length (kept_in old) ≡ min count 10 → count < 10 → Keeps old (slice_set old count (Some token)) token (count + 1)
keeps_more old count token in_front counted few =
    let all = kept_in old ++ token ∷ [] in
    let here : length (kept_in old) ≡ count = omega arith in
    let long : length all ≡ count + 1 = length-append (kept_in old) (token ∷ []) ∙ omega arith in
    let set : slice_set old count (Some token) ≡ places 10 all = ap (λ n. slice_set old n (Some token)) (sym here) ∙ ap (λ l. slice_set l (length (kept_in old)) (Some token)) in_front ∙ set_place 10 (kept_in old) token in
    let kept : kept_in (slice_set old count (Some token)) ≡ all = ap kept_in set ∙ kept_places 10 all (omega arith) in
    record {
      kept = kept ∙ sym (take_all 10 all (omega arith));
      in_front = set ∙ ap (places 10) (sym kept);
      counted = ap length kept ∙ omega arith;
    }

pub keeps_ten : (old : List (Option Token)) (count : ℕ) (token : Token) → old ≡ places 10 (kept_in old) → length (kept_in old) ≡ min count 10 → 10 ≤ count → (more : ℕ) → 10 ≤ more → Keeps old old token more
keeps_ten old count token in_front counted many more enough =
    record {
      kept = sym (take-append-le 10 (kept_in old) (token ∷ []) (omega arith) ∙ take_all 10 (kept_in old) (omega arith));
      in_front = in_front;
      counted = omega arith;
    }

-- the same, whether there was a place left or not
pub keeps : (old new : List (Option Token)) (count : ℕ) (token : Token) → old ≡ places 10 (kept_in old) → length (kept_in old) ≡ min count 10 → (count < 10 × (new ≡ slice_set old count (Some token))) ⊎ (10 ≤ count × (new ≡ old)) → Keeps old new token (min (count + 1) (2 ^ 64 - 1))
keeps old new count token in_front counted (inl (few, is)) = let e : count + 1 ≡ min (count + 1) (2 ^ 64 - 1) = omega arith in subst (λ n. Keeps old n token (min (count + 1) (2 ^ 64 - 1))) (sym is) (subst (λ n. Keeps old (slice_set old count (Some token)) token n) e (keeps_more old count token in_front counted few))
keeps old new count token in_front counted (inr (many, is)) = subst (λ n. Keeps old n token (min (count + 1) (2 ^ 64 - 1))) (sym is) (keeps_ten old count token in_front counted many (min (count + 1) (2 ^ 64 - 1)) (omega arith))
