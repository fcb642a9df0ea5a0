-- From one line to the next.
use Rattle.std.proofs.Common.{◌≡◌, ◌∙◌, ◌≤◌, ◌<◌, ◌+◌, ◌-◌, ℕ, zero, suc, List, [], ◌∷◌, true, false, refl, sym, arith, length, get_or, get_or-drop, drop, drop-drop, length-drop, ap}
use Rattle.std.proofs.lemmas.List.Sums.{fails_before_first, passes_at_first}
use Rattle.std.specs.List.{position_or_len}
use Rattle.std.proofs.lemmas.Bool.{cond-true, cond-false, false_from_ne_true}
use Rattle.std.proofs.lemmas.Bool.Decides.{nat_tests}
use Rattle.wac_positions.specs.Lines.{ends_line, is_line_end, line_starts, starts_after}
use Rattle.wac_lsp_texts.specs.Started.{Starts}
pub use Rattle.wac_positions.proofs.Starts.{line_end_ascii}

-- a byte of the line ends none
ends_none : (b : ℕ) (rest : List ℕ) → is_line_end b ≡ false → ends_line b rest ≡ false
ends_none b rest e = false_from_ne_true _ (λ ends. grind (arith, nat_tests))

-- bytes of the line are passed
pub passed : (at k : ℕ) (text : List ℕ) → k ≤ length text → ((i : ℕ) → i < k → is_line_end (get_or text i 0) ≡ false) → starts_after at text ≡ starts_after (at + k) (drop k text)
passed at zero text fits none = let same : at ≡ at + 0 = omega arith in ap (λ n. starts_after n text) same
passed at (suc k) [] fits none = absurd (omega arith)
passed at (suc k) (b ∷ rest) fits none =
    let same : suc at + k ≡ at + suc k = omega arith in
    cond-false (ends_line b rest) (suc at ∷ starts_after (suc at) rest) (starts_after (suc at) rest) (ends_none b rest (none 0 (omega arith)))
    ∙ passed (suc at) k rest (omega arith) (λ i lt. none (suc i) (omega arith))
    ∙ ap (λ n. starts_after n (drop k rest)) same

-- LF or CR alone
pub one : (end : List ℕ) (at : ℕ) → 0 < length end → ends_line (get_or end 0 0) (drop 1 end) ≡ true → starts_after at end ≡ (at + 1) ∷ starts_after (at + 1) (drop 1 end)
one [] at some ends = absurd (omega arith)
one (b ∷ rest) at some ends =
    let same : suc at ≡ at + 1 = omega arith in
    cond-true (ends_line b rest) (suc at ∷ starts_after (suc at) rest) (starts_after (suc at) rest) ends ∙ ap (λ n. n ∷ starts_after n rest) same

feed : (b c : ℕ) (rest : List ℕ) → is_line_end b ≡ true → ends_line b (c ∷ rest) ≡ false → ends_line c rest ≡ true
feed b c rest is not_yet = grind (arith, nat_tests)

alone : (b : ℕ) → is_line_end b ≡ true → ends_line b [] ≡ true
alone b is = grind (arith, nat_tests)

-- where the first does not end the line, another follows
pub two_fit : (end : List ℕ) → 0 < length end → is_line_end (get_or end 0 0) ≡ true → ends_line (get_or end 0 0) (drop 1 end) ≡ false → 2 ≤ length end
two_fit [] some is not_yet = absurd (omega arith)
two_fit (b ∷ []) some is not_yet = let yes : ends_line b [] ≡ true = alone b is in absurd (cc)
two_fit (b ∷ c ∷ rest) some is not_yet = omega arith

-- CR LF
pub two : (end : List ℕ) (at : ℕ) → 2 ≤ length end → is_line_end (get_or end 0 0) ≡ true → ends_line (get_or end 0 0) (drop 1 end) ≡ false → starts_after at end ≡ (at + 2) ∷ starts_after (at + 2) (drop 2 end)
two [] at some is not_yet = absurd (omega arith)
two (b ∷ []) at some is not_yet = absurd (omega arith)
two (b ∷ c ∷ rest) at some is not_yet =
    let same : suc (suc at) ≡ at + 2 = omega arith in
    cond-false (ends_line b (c ∷ rest)) (suc at ∷ starts_after (suc at) (c ∷ rest)) (starts_after (suc at) (c ∷ rest)) not_yet
    ∙ cond-true (ends_line c rest) (suc (suc at) ∷ starts_after (suc (suc at)) rest) (starts_after (suc (suc at)) rest) (feed b c rest is not_yet)
    ∙ ap (λ n. n ∷ starts_after n rest) same

-- the first bytes of a text are of one line up to the first end of a line
pub line_passed : (at len : ℕ) (text : List ℕ) → len ≤ length text → len ≡ position_or_len is_line_end text → starts_after at text ≡ starts_after (at + len) (drop len text)
line_passed at len text fits is = passed at len text fits (λ i lt. fails_before_first is_line_end text i 0 (omega arith))

pub ends_here : (text : List ℕ) (len : ℕ) → len ≡ position_or_len is_line_end text → 0 < length (drop len text) → is_line_end (get_or (drop len text) 0 0) ≡ true
ends_here text len is some =
    let count : length (drop len text) ≡ length text - len = length-drop len text in
    let zero_more : len + 0 ≡ len = omega arith in
    let here : get_or (drop len text) 0 0 ≡ get_or text len 0 = get_or-drop len text 0 0 ∙ ap (λ n. get_or text n 0) zero_more in
    ap is_line_end (here ∙ ap (λ n. get_or text n 0) is) ∙ passes_at_first is_line_end text 0 (omega arith)

pub next : (text : List ℕ) (start len more : ℕ) → len ≤ length (drop start text) → len ≡ position_or_len is_line_end (drop start text)
    → ((at : ℕ) → starts_after at (drop len (drop start text)) ≡ (at + more) ∷ starts_after (at + more) (drop more (drop len (drop start text))))
    → starts_after start (drop start text) ≡ (start + len + more) ∷ starts_after (start + len + more) (drop (start + len + more) text)
next text start len more fits is follows =
    let rest : drop more (drop len (drop start text)) ≡ drop (start + len + more) text = ap (drop more) (drop-drop len start text) ∙ drop-drop more (start + len) text in
    line_passed start len (drop start text) fits is ∙ follows (start + len) ∙ ap (λ l. (start + len + more) ∷ starts_after (start + len + more) l) rest

pub last : (text : List ℕ) (start len : ℕ) → len ≤ length (drop start text) → len ≡ position_or_len is_line_end (drop start text) → drop len (drop start text) ≡ [] → starts_after start (drop start text) ≡ []
last text start len fits is none = line_passed start len (drop start text) fits is ∙ ap (starts_after (start + len)) none

-- ---- lines by their numbers

pub first : (text : List ℕ) → Starts text 0 0
first text = (omega arith, refl)

pub step : (text : List ℕ) (n start next : ℕ) → Starts text n start → next ≤ length text → starts_after start (drop start text) ≡ next ∷ starts_after next (drop next text) → Starts text (n + 1) next
step text n start next here fits more = (fits, sym (drop-drop 1 n (line_starts text)) ∙ ap (drop 1) here.1 ∙ more)

pub stop : (text : List ℕ) (n start : ℕ) → Starts text n start → starts_after start (drop start text) ≡ [] → length (line_starts text) ≤ n + 1
stop text n start here none =
    let count : length (drop n (line_starts text)) ≡ length (line_starts text) - n = length-drop n (line_starts text) in
    let one_left : length (drop n (line_starts text)) ≡ 1 = ap length here.1 ∙ ap (λ (l : List ℕ). length (start ∷ l)) none in
    omega arith
