-- Where a place of an editor is, in a line whose start is known.
use Rattle.std.proofs.Common.{◌≡◌, ◌∙◌, ◌≤◌, ◌<◌, ◌+◌, ◌-◌, ℕ, List, ◌∷◌, refl, sym, subst, arith, length, get_or, get_or-drop, take, drop, drop-drop, length-drop, cond, ap}
use Rattle.std.proofs.lemmas.Bool.{le-leb}
use Rattle.std.proofs.lemmas.List.{take-take, length-take-le}
use Rattle.std.proofs.lemmas.List.Sums.{sum_by-cons}
use Rattle.std.specs.List.{count_by, position_or_len, slice_index}
use Rattle.std.specs.Str.{IsCharBoundary, IsUtf8}
use lib.Dec.{leb}
use Rattle.wac_positions.specs.declared.place.ColumnUnit.{ColumnUnit}
use Rattle.wac_positions.specs.declared.place.Place.{Place}
use Rattle.wac_positions.specs.Lines.{Begins, is_line_end, line, line_starts, starts_after}
use Rattle.wac_positions.specs.Places.{line_at, units}
use Rattle.wac_positions.proofs.Counting.{up_to_is}
use Rattle.wac_positions.proofs.PlacesAt.{place_is}
use Rattle.wac_positions.proofs.Starts.{begins_boundary, starts_are, starts_rise}
use Rattle.wac_lsp_texts.specs.Clamped.{IsClamped, IsClampedAt, IsClampedColumn}
use Rattle.wac_lsp_texts.specs.Started.{Starts}
use Rattle.wac_lsp_texts.proofs.Starting.{line_passed}

pub begins : (text : List ℕ) (n start : ℕ) → Starts text n start → Begins text n start
begins text n start h =
    let count : length (drop n (line_starts text)) ≡ length (line_starts text) - n = length-drop n (line_starts text) in
    let some : length (drop n (line_starts text)) ≡ length (start ∷ starts_after start (drop start text)) = ap length h.1 in
    let whole : n + 0 ≡ n = omega arith in
    (omega arith, ap (λ (l : List ℕ). get_or l 0 0) (sym h.1) ∙ get_or-drop n (line_starts text) 0 0 ∙ ap (λ k. get_or (line_starts text) k 0) whole)

pub boundary : (text : List ℕ) (n start : ℕ) → IsUtf8 text → Starts text n start → IsCharBoundary text start
boundary text n start utf8 h = begins_boundary text n start utf8 (begins text n start h)

-- the next line begins after the end of this one begins
next_after : (text : List ℕ) (n start o : ℕ) → Starts text n start → o ≤ start + position_or_len is_line_end (drop start text) → position_or_len is_line_end (drop start text) ≤ length (drop start text)
    → n + 1 < length (line_starts text) → o < get_or (line_starts text) (n + 1) 0
next_after text n start o h low fits more =
    let len : ℕ = position_or_len is_line_end (drop start text) in
    let later : drop (n + 1) (line_starts text) ≡ starts_after (start + len) (drop len (drop start text)) =
    sym (drop-drop 1 n (line_starts text)) ∙ ap (drop 1) h.1 ∙ line_passed start len (drop start text) fits refl in
    let count : length (drop (n + 1) (line_starts text)) ≡ length (line_starts text) - (n + 1) = length-drop (n + 1) (line_starts text) in
    let same : length (drop (n + 1) (line_starts text)) ≡ length (starts_after (start + len) (drop len (drop start text))) = ap length later in
    let after : start + len < get_or (starts_after (start + len) (drop len (drop start text))) 0 0 = (starts_are (start + len) (drop len (drop start text)) 0 0 (omega arith)).later in
    let whole : n + 1 + 0 ≡ n + 1 = omega arith in
    let is : get_or (line_starts text) (n + 1) 0 ≡ get_or (starts_after (start + len) (drop len (drop start text))) 0 0 =
    ap (λ k. get_or (line_starts text) k 0) (sym whole) ∙ sym (get_or-drop (n + 1) (line_starts text) 0 0) ∙ ap (λ (l : List ℕ). get_or l 0 0) later in
    omega arith

in_line : (text : List ℕ) (n start o : ℕ) → Starts text n start → start ≤ o → o ≤ start + position_or_len is_line_end (drop start text) → position_or_len is_line_end (drop start text) ≤ length (drop start text) → line_at text o ≡ n
in_line text n start o h from to fits =
    let b : Begins text n start = begins text n start h in
    let is : start ≡ slice_index (line_starts text) n = b.1 in
    let count : count_by (λ x. leb x o) (line_starts text) ≡ n + 1 = up_to_is o (line_starts text) n (starts_rise text) b.0 (omega arith) (next_after text n start o h to fits) in
    let all : count_by (λ x. leb x o) (line_starts text) ≡ 1 + line_at text o = sum_by-cons (λ x. cond (leb x o) 1 0) 0 (starts_after 0 text) ∙ ap (λ b. cond b 1 0 + line_at text o) (le-leb 0 o (omega arith)) in
    omega arith

pub clamped : (text : List ℕ) (unit : ColumnUnit) (place : Place) (start at column : ℕ) (l : List ℕ) → Starts text place.line start → position_or_len is_line_end (drop start text) ≤ length (drop start text)
    → l ≡ take (position_or_len is_line_end (drop start text)) (drop start text) → IsClampedAt unit l place.column column at → IsCharBoundary text (start + at) → IsClamped text unit place (start + at)
clamped text unit place start at column l h fits is found here =
    let c : IsClampedColumn unit l place.column column = found.0 in
    let same : c.at ≡ at = found.1 in
    let len : ℕ = position_or_len is_line_end (drop start text) in
    let b : Begins text place.line start = begins text place.line start h in
    let line_is : l ≡ line text place.line = is ∙ ap (λ s. take (position_or_len is_line_end (drop s text)) (drop s text)) b.1 in
    let l_len : length l ≡ len = ap length is ∙ length-take-le len (drop start text) fits in
    let within : at ≤ len = let w = c.within in omega arith in
    let o : line_at text (start + at) ≡ place.line = in_line text place.line start (start + at) h (omega arith) (omega arith) fits in
    let minus : at ≡ start + at - start = omega arith in
    let front : take at l ≡ take (start + at - start) (drop start text) = ap (take at) is ∙ take-take at len (drop start text) within ∙ ap (λ k. take k (drop start text)) minus in
    record {
      in_line = λ _. (
        column,
        subst (λ t. IsClampedColumn unit t place.column column) line_is c,
        (
          here,
          place_is text unit (start + at) place.line start (take at l) o b.1 front ∙ ap (λ k. record { line = place.line; column = k }) (ap (λ k. units unit (take k l)) (sym same) ∙ sym c.is),
        ),
      );
      after = λ past. let before = b.0 in absurd (omega arith);
    }

pub past : (text : List ℕ) (unit : ColumnUnit) (place : Place) → length (line_starts text) ≤ place.line → IsClamped text unit place (length text)
past text unit place none = record { in_line = λ lt. absurd (omega arith); after = λ _. refl }
