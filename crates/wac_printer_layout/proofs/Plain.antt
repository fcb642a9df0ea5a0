-- A token that is no string consists of visible ASCII characters, so that no character of it is rejected.
use Rattle.wac_printer_layout.proofs.Common.{◌≡◌, ℕ, zero, suc, ◌+◌, ◌-◌, ◌<◌, ◌≤◌, Bool, true, false, List, [], ◌∷◌, sym, refl, subst, arith, inl, inr, ⊎_elim, Option, Some, None, ◌&&◌, ◌⊎◌, nat_le, nat_lt, not, is_none, AllByRecursion, concat, IsAscii, and_parts, leb-true, ltb-true, false≢true, IsAscii-nil, IsAscii-cons, fault_of, token_of, InTable, IsToken, Token, Error, token_meant}
use Rattle.wac_lexer.specs.Pattern.{Pattern, Matches}
use Rattle.wac_lexer.specs.Pattern.Pattern.{Nothing, Empty, Range, Then, Or, Many}
use Rattle.wac_lexer.specs.Shapes.{id, package_name, package_path}
use Rattle.wac_lexer.specs.Tokens.IsToken.{fixed, identifier, string, name, path}
use Rattle.wac_lexer.specs.Words.{fixed_texts}
use Rattle.wac_lexer.specs.declared.token.Token.TheVariants as tokens
use Rattle.wac_printer_layout.specs.Accepted.{IsAccepted}
use Rattle.wac_printer_layout.proofs.Characters.{holds_ascii, all-append}
use Rattle.wac_printer_layout.proofs.Fine.{Fine, accepted}

-- visible: from 33 to 126
abbrev Visible : ℕ → Type 0
Visible b = (33 ≤ b) × (b < 127)

-- each of them is accepted: a test of all
abbrev is_fine : ℕ → Bool
is_fine b = is_none (fault_of b)

abbrev all_fine : ℕ → ℕ → Bool
all_fine first zero = true
all_fine first (suc n) = is_fine (first + n) && all_fine first n

fine_at : (first n b : ℕ) → all_fine first n ≡ true → b < n → is_fine (first + b) ≡ true
fine_at first zero b e h = absurd (omega arith)
fine_at first (suc n) b e h =
    let p = and_parts (is_fine (first + n)) (all_fine first n) e in
    ⊎_elim (λ (s : b ≡ n). subst (λ k. is_fine (first + k) ≡ true) (sym s) p.0) (λ (l : b < n). fine_at first n b p.1 l) (either b n (omega arith))
  where
    either : (b n : ℕ) → b < n + 1 → (b ≡ n) ⊎ (b < n)
    either b n h = search arith

all : all_fine 33 94 ≡ true
all = refl

visible_fine : (b : ℕ) → Visible b → Fine b
visible_fine b h = none (fault_of b) (is b h)
  where
    none : (o : Option Error) → is_none o ≡ true → o ≡ None
    none None e = refl
    none (Some x) e = absurd (false≢true e)

    is : (b : ℕ) → Visible b → is_fine b ≡ true
    is b h = let k : (n : ℕ) × (33 + n ≡ b) × (n < 94) = (b - 33, omega (arith, h.0), omega (arith, h.0, h.1)) in subst (λ c. is_fine c ≡ true) k.1 (fine_at 33 94 k.0 all k.2)

-- the texts of patterns of visible bytes
abbrev AreVisible : List ℕ → Type 0
AreVisible t = AllByRecursion Visible t

abbrev visible : Pattern → Bool
visible Nothing = true
visible Empty = true
visible (Range first last) = nat_le 33 first && nat_lt last 127
visible (Then p q) = visible p && visible q
visible (Or p q) = visible p && visible q
visible (Many p) = visible p

many : (p : Pattern) (parts : List (List ℕ)) → ((t : List ℕ) → Matches p t → AreVisible t) → AllByRecursion (Matches p) parts → AreVisible (concat parts)
many p [] f h = tt
many p (x ∷ parts) f h = all-append Visible x (concat parts) (f x h.0) (many p parts f h.1)

visible_texts : (p : Pattern) → visible p ≡ true → (t : List ℕ) → Matches p t → AreVisible t
visible_texts Nothing e t h = absurd h
visible_texts Empty e t h = subst AreVisible (sym h) tt
visible_texts (Range first last) e t h =
    let r = and_parts (nat_le 33 first) (nat_lt last 127) e in
    let b = and_parts (nat_le first h.0) (nat_le h.0 last) h.2 in
    subst AreVisible (sym h.1) ((omega (arith, leb-true 33 first r.0, leb-true first h.0 b.0), omega (arith, ltb-true last 127 r.1, leb-true h.0 last b.1)), tt)
visible_texts (Then p q) e t h =
    let r = and_parts (visible p) (visible q) e in
    subst AreVisible (sym h.2) (all-append Visible h.0 h.1 (visible_texts p r.0 h.0 h.3) (visible_texts q r.1 h.1 h.4))
visible_texts (Or p q) e t (inl h) = visible_texts p (and_parts (visible p) (visible q) e).0 t h
visible_texts (Or p q) e t (inr h) = visible_texts q (and_parts (visible p) (visible q) e).1 t h
visible_texts (Many p) e t h = subst AreVisible (sym h.1) (many p h.0 (visible_texts p e) h.2)

-- the texts of the tables
abbrev are_visible : List ℕ → Bool
are_visible [] = true
are_visible (b ∷ t) = (nat_le 33 b && nat_lt b 127) && are_visible t

visible_is : (t : List ℕ) → are_visible t ≡ true → AreVisible t
visible_is [] e = tt
visible_is (b ∷ t) e =
    let p = and_parts (nat_le 33 b && nat_lt b 127) (are_visible t) e in
    let q = and_parts (nat_le 33 b) (nat_lt b 127) p.0 in
    ((leb-true 33 b q.0, ltb-true b 127 q.1), visible_is t p.1)

abbrev all_visible : List (List ℕ × Token) → Bool
all_visible [] = true
all_visible (entry ∷ table) = are_visible entry.0 && all_visible table

in_table : (table : List (List ℕ × Token)) (t : List ℕ) (k : Token) → all_visible table ≡ true → InTable t k table → AreVisible t
in_table [] t k e h = absurd h
in_table (entry ∷ table) t k e (inl h) = subst AreVisible (sym h.0) (visible_is entry.0 (and_parts (are_visible entry.0) (all_visible table) e).0)
in_table (entry ∷ table) t k e (inr h) = in_table table t k (and_parts (are_visible entry.0) (all_visible table) e).1 h

abbrev pub is_string : Token → Bool
is_string tokens.String = true
is_string k = false

token_visible : (t : List ℕ) (k : Token) → is_string k ≡ false → IsToken k t → AreVisible t
token_visible t k e (fixed f) = in_table fixed_texts t k refl f
token_visible t k e (identifier m absent) = visible_texts id refl t m
token_visible t k e (string m) = absurd (false≢true (sym e))
token_visible t k e (name m) = visible_texts package_name refl t m
token_visible t k e (path m) = visible_texts package_path refl t m

visible_ascii : (t : List ℕ) → AreVisible t → IsAscii t
visible_ascii [] h = IsAscii-nil
visible_ascii (b ∷ t) h = IsAscii-cons b t (omega (arith, h.0.1)) (visible_ascii t h.1)

all_of : (t : List ℕ) → AreVisible t → AllByRecursion Fine t
all_of [] h = tt
all_of (b ∷ t) h = (visible_fine b h.0, all_of t h.1)

pub plain_accepted : (t : List ℕ) (k : Token) → token_of t ≡ Some k → is_string k ≡ false → IsAccepted t
plain_accepted t k e n = let v = token_visible t k n (token_meant t k e) in accepted t (holds_ascii Fine t (visible_ascii t v) (all_of t v))

-- as a test
abbrev pub is_plain : List ℕ → Bool
is_plain t = elim (token_of t) [ Some k ↦ not (is_string k) | None ↦ false ]

pub plain : (t : List ℕ) → is_plain t ≡ true → IsAccepted t
plain t e = go (token_of t) refl e
  where
    not_true : (b : Bool) → not b ≡ true → b ≡ false
    not_true true e = absurd (false≢true e)
    not_true false e = refl

    go : (o : Option Token) → token_of t ≡ o → elim o [ Some k ↦ not (is_string k) | None ↦ false ] ≡ true → IsAccepted t
    go None f e = absurd (false≢true e)
    go (Some k) f e = plain_accepted t k f (not_true (is_string k) e)
