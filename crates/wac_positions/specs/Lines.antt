-- The lines of a text: where they begin, and the bytes of each.
use Rattle.std.specs.Prelude.{◌≡◌, ◌≤◌, ◌<◌, ◌+◌, refl, ℕ, suc, List, [], ◌∷◌, Bool, false, ◌&&◌, ◌||◌, not, nat_eq, take, drop, slice_index, length, codes, if◌then◌else◌}
use Rattle.std.specs.List.{before_first}

abbrev pub line_feed : ℕ
line_feed = 10

abbrev pub carriage_return : ℕ
carriage_return = 13

-- whether a text begins with LF
abbrev pub begins_with_line_feed : List ℕ → Bool
begins_with_line_feed [] = false
begins_with_line_feed (b ∷ rest) = nat_eq b line_feed

-- whether a line ends with this byte, before that text: LF ends one, and so does a CR that no LF follows
abbrev pub ends_line : ℕ → List ℕ → Bool
ends_line b rest = nat_eq b line_feed || (nat_eq b carriage_return && not (begins_with_line_feed rest))

-- where lines begin within the text that follows an offset
abbrev pub starts_after : ℕ → List ℕ → List ℕ
starts_after at [] = []
starts_after at (b ∷ rest) = if ends_line b rest then suc at ∷ starts_after (suc at) rest else starts_after (suc at) rest

-- where the lines of a text begin; the first begins with the text
abbrev pub line_starts : List ℕ → List ℕ
line_starts text = 0 ∷ starts_after 0 text

lines_begin_after_their_ends : line_starts (codes "a\r\nb\rc\n") ≡ 0 ∷ 3 ∷ 5 ∷ 7 ∷ []
lines_begin_after_their_ends = refl

-- whether a byte belongs to the end of a line
abbrev pub is_line_end : ℕ → Bool
is_line_end b = nat_eq b line_feed || nat_eq b carriage_return

-- no byte of the text does
abbrev pub HasNoLineEnd : List ℕ → Type 0
HasNoLineEnd text = (i : ℕ) → i < length text → is_line_end (slice_index text i) ≡ false

-- where the n-th line begins
abbrev pub start_of : List ℕ → ℕ → ℕ
start_of text n = slice_index (line_starts text) n

-- the n-th line, without its end
abbrev pub line : List ℕ → ℕ → List ℕ
line text n = before_first is_line_end (drop (slice_index (line_starts text) n) text)

a_line_is_without_its_end : line (codes "a\r\nbc\rd") 1 ≡ codes "bc"
a_line_is_without_its_end = refl

-- the n-th line begins at this offset
abbrev pub Begins : List ℕ → ℕ → ℕ → Type 0
Begins text n start = (n < length (line_starts text)) × (start ≡ slice_index (line_starts text) n)

-- the n-th line begins at this offset, and has these bytes, with its end
pub record IsLine (text : List ℕ) (n start : ℕ) (bytes : List ℕ) : Type 0 where
  pub begins : Begins text n start
  pub is : bytes ≡ drop start (take (start + length bytes) text)
  pub fits : start + length bytes ≤ length text
  pub stops : n + 1 < length (line_starts text) → start + length bytes ≡ slice_index (line_starts text) (n + 1)
  pub last : length (line_starts text) ≡ n + 1 → start + length bytes ≡ length text
