-- A token that is next, and taken.
use Rattle.wac_ast_base.proofs.Common.{◌≡◌, ℕ, true, false, eq-eqb, cond, take, map, length, List, [], ◌∷◌, ◌⊎◌, inl, inr, Option, Some, None, Result, Ok, Err, refl, ap, subst, ◌∙◌, rules, Span, Item, next_token, after_first_item, Reading, left, shown, Token, reads_version, kind, is_token, is_bad, valid, at, read_token, can, version, other, refuse, Stop, Tried, not_fault}
use Rattle.std.proofs.Common.{sym}
use denote.Enum.Bare.{sameb, same_true}
use Rattle.wac_lexer.specs.contracts.token.Token.{the_type}
use Rattle.wac_lexer.specs.declared.error.Error.{Error as LexError}
use Rattle.wac_lexer.specs.declared.token.Token.TheVariants as t
use Rattle.wac_ast_base.specs.declared.error.Error.{Error}
use Rattle.wac_ast_base.specs.Error.{Told, told_by, faulty, expected, expected_one, no_memory}
use Rattle.wac_ast_base.specs.Lookahead.{refusal, fault_at}
use Rattle.wac_ast_base.specs.Answer.{plain, first_item, End, end_of_input, end_span, empty_end, told, version_told, Fails}

-- a test of two tokens that holds
pub same_token : (a b : Token) → sameb the_type a b ≡ true → a ≡ b
same_token a b h = same_true the_type (search rules) a b h

package_valid : (k : Token) (text : List ℕ) → plain k ≡ false → valid k text ≡ reads_version text
package_valid t.PackageName text p = refl
package_valid t.PackagePath text p = refl
package_valid _ text p = absurd cc

some_same : {A : Type 0} (a b : A) → Some a ≡ Some b → a ≡ b
some_same a b h = cc

same_kind : (k : Token) (x : Item) → x.token ≡ Ok k → is_token k x.token ≡ true
same_kind k x is = ap (is_token k) is ∙ eq-eqb (kind k) (kind k) refl

both : (k : Token) (x : Item) (s : Span) → next_token (x ∷ []) ≡ Some (Ok k, s) → (x.token ≡ Ok k) × (x.span ≡ s)
both k x s h = let e = some_same {A = Result Token LexError × Span} (x.token, x.span) (Ok k, s) h in (ap (λ p. p.0) e, ap (λ p. p.1) e)

pub span_of : (k : Token) (xs : List Item) (s : Span) → next_token xs ≡ Some (Ok k, s) → s ≡ (first_item xs).span
span_of k [] s h = absurd cc
span_of k (x ∷ xs) s h = sym (both k x s h).1

pub package_taken : (k : Token) (xs : List Item) (s : Span) → plain k ≡ false → next_token xs ≡ Some (Ok k, s) → reads_version (first_item xs).text ≡ true → read_token [] k xs ≡ Ok (first_item xs, after_first_item xs)
package_taken k [] s p h v = absurd cc
package_taken k (x ∷ xs) s p h v = let same = same_kind k x (both k x s h).0 in let right = package_valid k x.text p ∙ v in rw (same, right) refl

package_refused : (k : Token) (xs : List Item) (s : Span) → plain k ≡ false → next_token xs ≡ Some (Ok k, s) → reads_version (first_item xs).text ≡ false → read_token [] k xs ≡ Err (record { left = xs; expected = can k ∷ []; why = version })
package_refused k [] s p h v = absurd cc
package_refused k (x ∷ xs) s p h v = let same = same_kind k x (both k x s h).0 in let wrong = package_valid k x.text p ∙ v in rw (same, wrong) refl

same_fails : {A : Type 0} (e : Error) (end : End) (m n : Result A Stop) → m ≡ n → Fails e end n → Fails e end m
same_fails {A = A} e end m n h f = subst (λ (r : Result A Stop). Fails e end r) (sym h) f

version_tells : (e : Error) (end : End) (k : Token) (xs : List Item) → told_by e ≡ version_told (first_item xs).text (first_item xs).span → told_by e ≡ told end (record { left = xs; expected = can k ∷ []; why = version })
unfolding told
version_tells e end k [] h = h
version_tells e end k (x ∷ xs) h = h

pub version_fails : (e : Error) (end : End) (k : Token) (xs : List Item) (s : Span) → plain k ≡ false → next_token xs ≡ Some (Ok k, s) → (told_by e ≡ no_memory) ⊎ ((reads_version (first_item xs).text ≡ false) × (told_by e ≡ version_told (first_item xs).text s)) → Fails e end (read_token [] k xs)
version_fails e end k xs s p h (inl memory) = inl memory
version_fails e end k xs s p h (inr (v, tells)) =
    same_fails e end (read_token [] k xs) _ (package_refused k xs s p h v) (inr (ap Some (sym (version_tells e end k xs (tells ∙ ap (version_told (first_item xs).text) (span_of k xs s h))))))

token_refused : (k : Token) (xs : List Item) → at k xs ≡ false → read_token [] k xs ≡ refuse xs (can k ∷ [])
token_refused k [] h = refl
token_refused k (x ∷ xs) h = rw h refl

pub token_fails : (e : Error) (l : Reading) (k : Token) → at k (left l) ≡ false → told_by e ≡ refusal (next_token (left l)) (shown l.source (empty_end l.source)) (expected_one k) → Fails e (end_of_input l) (read_token [] k (left l))
unfolding told end_of_input
token_fails e l k h tells = same_fails e (end_of_input l) (read_token [] k (left l)) _ (token_refused k (left l) h) (inr (ap Some (sym tells)))

-- a fault of the text, whatever was tried there
pub fault_refused : (l : Reading) (k : Token) (t : Told) → fault_at (next_token (left l)) ≡ Some t → (not_fault (left l) ≡ false) × ((ts : List Tried) → told (end_of_input l) (record { left = left l; expected = ts; why = other }) ≡ t)
unfolding told
fault_refused l k t h = (go (left l) h, λ ts. told_is (left l) (end_span (end_of_input l) ts) (expected (take 10 (map (λ (t : Tried). t.token) ts)) (length ts)) h)
  where
    some_told : (a b : Told) → Some a ≡ Some b → a ≡ b
    some_told a b e = some_same a b e

    at_fault : (r : Result Token LexError) (s : Span) → fault_at (Some (r, s)) ≡ Some t → (cond (is_bad r) false true ≡ false) × ((end : Span) (f : Option Token → Span → Told) → refusal (Some (r, s)) end f ≡ t)
    at_fault (Ok n) s e = absurd cc
    at_fault (Err n) s e = (refl, λ end f. some_told (faulty n s) t e)

    go : (xs : List Item) → fault_at (next_token xs) ≡ Some t → not_fault xs ≡ false
    go [] e = absurd cc
    go (x ∷ xs) e = (at_fault x.token x.span e).0

    told_is : (xs : List Item) (end : Span) (f : Option Token → Span → Told) → fault_at (next_token xs) ≡ Some t → refusal (next_token xs) end f ≡ t
    told_is [] end f e = absurd cc
    told_is (x ∷ xs) end f e = (at_fault x.token x.span e).1 end f

pub no_fault_there : (xs : List Item) → fault_at (next_token xs) ≡ None → not_fault xs ≡ true
no_fault_there [] h = refl
no_fault_there (x ∷ xs) h = go x.token h
  where
    go : (r : Result Token LexError) → fault_at (Some (r, x.span)) ≡ None → cond (is_bad r) false true ≡ true
    go (Ok n) e = refl
    go (Err n) e = absurd cc
