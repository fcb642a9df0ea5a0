-- The prefix that is found is the longest that is a token.
use Rattle.wac_lexer.proofs.Common.{[], ◌∷◌, ◌≡◌, ℕ, zero, suc, ◌<◌, ◌≤◌, List, take, length, refl, sym, ap, ◌∙◌, arith, Option, Some, None, ⊎_elim, cases_lt}
use Rattle.std.specs.Prelude.{MatchOption}
use Rattle.wac_lexer.specs.Tokens.{token_of, longest_token, IsToken, IsLongest, HasNone}
use Rattle.wac_lexer.proofs.Sorts.{token_found, token_meant}
use Rattle.wac_lexer.specs.declared.token.Token.{Token}
use Rattle.wac_lexer.proofs.Fronts.{one_token}

-- what the longest among the first n prefixes is
abbrev pub Longest : List ℕ → ℕ → Option (ℕ × Token) → Type 0
Longest text n None = (m : ℕ) → 0 < m → m ≤ n → token_of (take m text) ≡ None
Longest text n (Some f) = (0 < f.0) × (f.0 ≤ n) × (token_of (take f.0 text) ≡ Some f.1) × ((m : ℕ) → f.0 < m → m ≤ n → token_of (take m text) ≡ None)

at_or_below : (text : List ℕ) (n m low : ℕ) → ((k : ℕ) → low < k → k ≤ n → token_of (take k text) ≡ None) → token_of (take (suc n) text) ≡ None → low < m → m ≤ suc n → token_of (take m text) ≡ None
at_or_below text n m low below here h l =
    ⊎_elim (λ (w : m < suc n). below m h (omega arith)) (λ (w : suc n ≤ m). let same : m ≡ suc n = omega arith in ap (λ k. token_of (take k text)) same ∙ here) (cases_lt m (suc n))

step : (text : List ℕ) (n : ℕ) (found : Option (ℕ × Token)) (token : Option Token) → token_of (take (suc n) text) ≡ token → Longest text n found → Longest text (suc n) (one_token (suc n) token found)
step text n found (Some token) e h = (omega arith, omega arith, e, λ m a b. absurd (omega arith))
step text n None None e h = λ m a b. at_or_below text n m 0 h e a b
step text n (Some f) None e h = (h.0, omega (arith, h.1), h.2, λ m a b. at_or_below text n m f.0 h.3 e a b)

pub longest_is : (text : List ℕ) (n : ℕ) → Longest text n (longest_token text n)
longest_is text zero = λ m a b. absurd (omega arith)
longest_is text (suc n) = step text n (longest_token text n) (token_of (take (suc n) text)) refl (longest_is text n)

no_token : (text : List ℕ) (token : Token) → token_of text ≡ None → IsToken token text → ⊥
no_token text token none h = let both : None ≡ Some token = sym none ∙ token_found text token h in cc

none_at : (text : List ℕ) → Longest text (length text) None → HasNone text
none_at text h zero token fits is = let none : token_of (take 0 text) ≡ None = empty text in no_token (take 0 text) token none is
  where
    empty : (text : List ℕ) → token_of (take 0 text) ≡ None
    empty [] = refl
    empty (b ∷ text) = refl
none_at text h (suc m) token fits is = no_token (take (suc m) text) token (h (suc m) (omega arith) fits) is

pub law : (text : List ℕ) → MatchOption (longest_token text (length text)) (HasNone text) (λ f. IsLongest text f.0 f.1)
law text = go (longest_token text (length text)) (longest_is text (length text))
  where
    go : (found : Option (ℕ × Token)) → Longest text (length text) found → MatchOption found (HasNone text) (λ f. IsLongest text f.0 f.1)
    go None h = none_at text h
    go (Some f) h =
        record {
          some = h.0;
          within = h.1;
          is = token_meant (take f.0 text) f.1 h.2;
          longest = λ m other a b is. no_token (take m text) other (h.3 m a b) is;
        }
