-- What std's calls say of a text.
use Rattle.wac_ast_base.proofs.Common.{◌≡◌, ℕ, ◌<◌, List, [], ◌∷◌, drop, length, Option, Some, None, MatchOption, refl, ap, ◌∙◌, Bor, lit<, ◌+◌, ne_eqb, ◌++◌, strip_prefix_char, unwrap_or, without_percent, without_front_quote, without_last_quote}
use Rattle.std.proofs.Common.{sym}
use Rattle.std.specs.Str.Pattern.{FindsCharPrefix}

differs : (text : List ℕ) → ((rest : List ℕ) → text ≡ 37 ∷ rest → ⊥) → without_percent text ≡ text
differs [] h = refl
differs (b ∷ text) h = rw (ne_eqb b 37 (λ e. h text (ap (λ n. n ∷ text) e))) refl

pub stripped : (text : List ℕ) (found : Option (Bor (List ℕ))) → MatchOption found (FindsCharPrefix 37 text None) (λ x. (n : ℕ) × FindsCharPrefix 37 text (Some n) × (x.now ≡ drop n text) × (length x.now + n ≡ length text)) → MatchOption found (without_percent text ≡ text) (λ x. without_percent text ≡ x.now)
stripped text None h = differs text (strip_prefix_char 37 text None h (lit< tt))
stripped text (Some x) h = let k = strip_prefix_char 37 text (Some x) h (lit< tt) in ap without_percent k

pub unwrapped : (text : Bor (List ℕ)) (found : Option (Bor (List ℕ))) → MatchOption found (without_percent text.now ≡ text.now) (λ x. without_percent text.now ≡ x.now) → (unwrap_or found text).now ≡ without_percent text.now
unwrapped text None h = sym h
unwrapped text (Some x) h = sym h

front_differs : (text : List ℕ) → ((rest : List ℕ) → text ≡ 34 ∷ rest → ⊥) → without_front_quote text ≡ text
front_differs [] h = refl
front_differs (b ∷ text) h = rw (ne_eqb b 34 (λ e. h text (ap (λ n. n ∷ text) e))) refl

last_differs : (text : List ℕ) → ((front : List ℕ) → text ≡ front ++ (34 ∷ []) → ⊥) → without_last_quote text ≡ text
last_differs [] h = refl
last_differs (b ∷ []) h = rw (ne_eqb b 34 (λ e. h [] (ap (λ n. n ∷ []) e))) refl
last_differs (b ∷ c ∷ text) h = ap (λ (l : List ℕ). b ∷ l) (last_differs (c ∷ text) (λ front e. h (b ∷ front) (ap (λ (l : List ℕ). b ∷ l) e)))

last_is : (front : List ℕ) → without_last_quote (front ++ (34 ∷ [])) ≡ front
last_is [] = refl
last_is (b ∷ []) = refl
last_is (b ∷ c ∷ front) = ap (λ (l : List ℕ). b ∷ l) (last_is (c ∷ front))

pub front_stripped : (text : Bor (List ℕ)) (found : Option (Bor (List ℕ))) → MatchOption found ((rest : List ℕ) → text.now ≡ 34 ∷ rest → ⊥) (λ x. text.now ≡ 34 ∷ x.now) → (unwrap_or found text).now ≡ without_front_quote text.now
front_stripped text None h = sym (front_differs text.now h)
front_stripped text (Some x) h = sym (ap without_front_quote h)

pub last_stripped : (text : Bor (List ℕ)) (found : Option (Bor (List ℕ))) → MatchOption found ((front : List ℕ) → text.now ≡ front ++ (34 ∷ []) → ⊥) (λ x. text.now ≡ x.now ++ (34 ∷ [])) → (unwrap_or found text).now ≡ without_last_quote text.now
last_stripped text None h = sym (last_differs text.now h)
last_stripped text (Some x) h = sym (ap without_last_quote h ∙ last_is x.now)
