-- A text is sought among the entries of its own length alone.
use Rattle.wac_lexer.proofs.Common.{◌≡◌, ◌≢◌, ℕ, ◌≤◌, ◌<◌, Bool, true, false, cond, List, [], ◌∷◌, ◌++◌, length, get_or, sym, refl, ap, ◌∙◌, subst, ⊎_elim, arith, Some, None, ◌&&◌, nat_le, bytes_eq, and_from, le-leb, cases_Bool, cases_lt}
use Rattle.wac_lexer.specs.Words.{find, keywords, symbols, brackets, separators, long_symbols, with_lengths}
use Rattle.wac_lexer.specs.declared.token.Token.{Token}
use Rattle.wac_lexer.proofs.Texts.{bytes_eq_is, find_next}

abbrev fits : ℕ → ℕ → ℕ → Bool
fits low high n = nat_le low n && nat_le n high

pub find_with_lengths : (low high : ℕ) (text : List ℕ) (table : List (List ℕ × Token)) → low ≤ length text → length text ≤ high → find text table ≡ find text (with_lengths low high table)
find_with_lengths low high text [] above below = refl
find_with_lengths low high text (entry ∷ table) above below = step (find_with_lengths low high text table above below)
  where
    rest : List (List ℕ × Token)
    rest = with_lengths low high table

    here : bytes_eq text entry.0 ≡ true → find text (entry ∷ table) ≡ find text (with_lengths low high (entry ∷ table))
    here test =
        let same = bytes_eq_is text entry.0 test in
        let kept : fits low high (length entry.0) ≡ true =
        subst (λ t. fits low high (length t) ≡ true) same (and_from (nat_le low (length text)) (nat_le (length text) high) (le-leb low (length text) above) (le-leb (length text) high below)) in
        ap (λ b. cond b (Some entry.1) (find text table)) test
        ∙ sym (ap (λ b. find text (cond b (entry ∷ rest) rest)) kept ∙ ap (λ b. cond b (Some entry.1) (find text rest)) test)

    passed : bytes_eq text entry.0 ≡ false → (keeps : Bool) → find text (cond keeps (entry ∷ rest) rest) ≡ find text rest
    passed test true = ap (λ b. cond b (Some entry.1) (find text rest)) test
    passed test false = refl

    step : find text table ≡ find text rest → find text (entry ∷ table) ≡ find text (with_lengths low high (entry ∷ table))
    step later =
        ⊎_elim here
        (λ (test : bytes_eq text entry.0 ≡ false). ap (λ b. cond b (Some entry.1) (find text table)) test ∙ later ∙ sym (passed test (fits low high (length entry.0))))
        (cases_Bool (bytes_eq text entry.0))

-- no keyword is shorter than two bytes, or longer than thirteen
pub find_too_short : (text : List ℕ) → length text < 2 → find text keywords ≡ None
find_too_short text h = find_with_lengths 0 1 text keywords (omega arith) (omega arith)

pub find_too_long : (text : List ℕ) → 13 < length text → find text keywords ≡ None
find_too_long text h = find_with_lengths 14 (length text) text keywords (omega arith) (omega arith)

-- a symbol of one byte is a bracket or a separator
pub symbol_of_one : (text : List ℕ) → length text ≡ 1 → find text (brackets ++ separators) ≡ find text symbols
symbol_of_one text h = sym (find_with_lengths 1 1 text symbols (omega arith) (omega arith))

-- and one of another length is neither
none_of_one : (table : List (List ℕ × Token)) → with_lengths 0 0 table ≡ [] → ((n : ℕ) → with_lengths 2 n table ≡ []) → (text : List ℕ) → length text ≢ 1 → find text table ≡ None
none_of_one table none_shorter none_longer text h =
    ⊎_elim
    (λ (few : length text < 1). find_with_lengths 0 0 text table (omega arith) (omega arith) ∙ ap (find text) none_shorter)
    (λ (more : 1 ≤ length text). find_with_lengths 2 (length text) text table (omega (arith, h)) (omega arith) ∙ ap (find text) (none_longer (length text)))
    (cases_lt (length text) 1)

pub symbol_of_more : (text : List ℕ) → length text ≢ 1 → find text long_symbols ≡ find text symbols
symbol_of_more text h =
    sym (find_next brackets (separators ++ long_symbols) text (none_of_one brackets refl (λ n. refl) text h)
    ∙ find_next separators long_symbols text (none_of_one separators refl (λ n. refl) text h))

-- a text of one byte is that byte
pub one_byte : (text : List ℕ) → length text ≡ 1 → text ≡ get_or text 0 0 ∷ []
one_byte [] h = absurd (omega arith)
one_byte (b ∷ []) h = refl
one_byte (a ∷ b ∷ rest) h = absurd (omega arith)
