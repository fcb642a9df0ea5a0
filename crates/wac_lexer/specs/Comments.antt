-- Block comments, which nest.
use Rattle.std.specs.List.{prefix_len}
use Rattle.std.specs.Prelude.{◌≡◌, refl, codes, ℕ, zero, suc, ◌+◌, ◌-◌, Bool, true, false, ◌&&◌, ◌||◌, not, ◌==◌, slice_index, nat_eq, List, [], ◌∷◌, length, drop, Option, Some, None, if◌then◌else◌}
use Rattle.wac_lexer.specs.Ascii.{asterisk, carriage_return, line_feed, slash, space, tab}

-- whether a text begins with these two bytes
abbrev pub begins : ℕ → ℕ → List ℕ → Bool
begins x y [] = false
begins x y (a ∷ []) = false
begins x y (a ∷ b ∷ text) = nat_eq a x && nat_eq b y

abbrev pub opens : List ℕ → Bool
opens = begins slash asterisk

abbrev pub closes : List ℕ → Bool
closes = begins asterisk slash

-- From within a comment, past pieces and the comment's end, to the rest: a piece is a whole comment, or one byte
-- at which neither `/*` nor `*/` begins.
pub data Inside : List ℕ → List ℕ → Type 0 where
  ends : {rest : List ℕ} → Inside (asterisk ∷ slash ∷ rest) rest
  comment : {text mid rest : List ℕ} → Inside text mid → Inside mid rest → Inside (slash ∷ asterisk ∷ text) rest
  byte : {b : ℕ} {text rest : List ℕ} → opens (b ∷ text) ≡ false → closes (b ∷ text) ≡ false → Inside text rest → Inside (b ∷ text) rest

-- The same, computed: what follows the ends of the n comments in which a text begins.
abbrev pub after : ℕ → List ℕ → Option (List ℕ)
after zero text = Some text
after (suc n) [] = None
after (suc n) (a ∷ []) = None
after (suc n) (a ∷ b ∷ text) =
    elim (nat_eq a slash && nat_eq b asterisk) [
      | true ↦ after (suc (suc n)) text
      | false ↦ elim (nat_eq a asterisk && nat_eq b slash) [ true ↦ after n text | false ↦ after (suc n) (b ∷ text) ]
    ]

-- space, TAB, CR and LF
abbrev pub is_blank : ℕ → Bool
is_blank b = nat_eq b space || (nat_eq b tab || (nat_eq b carriage_return || nat_eq b line_feed))

abbrev pub is_not_line_end : ℕ → Bool
is_not_line_end b = not (nat_eq b line_feed)

-- how many bytes come before the first LF
abbrev pub line_len : List ℕ → ℕ
line_len text = prefix_len is_not_line_end text

-- how many bytes the whole block comment takes that begins a text, and 0 where it has no end
abbrev pub block_len : List ℕ → ℕ
block_len text = elim (after 1 (drop 2 text)) [ Some rest ↦ length text - length rest | None ↦ 0 ]

-- how many bytes the blank or the whole comment takes that begins a text, and 0 where none does
abbrev pub part_len : List ℕ → ℕ
part_len text =
    if length text == 0 then 0
    else (if is_blank (slice_index text 0) then 1
    else (if begins slash slash text then line_len text
    else (if opens text then block_len text else 0)))

-- how many bytes up to n blanks and comments take
abbrev pub parts_len : ℕ → List ℕ → ℕ
parts_len zero text = 0
parts_len (suc n) text = part_len text + (if part_len text == 0 then 0 else parts_len n (drop (part_len text) text))

-- how many bytes come before the first item
abbrev pub gap : List ℕ → ℕ
gap text = parts_len (length text) text

-- examples
gap_of_three_parts : gap (codes " // x\n/* a /* b */ */c") ≡ 21
gap_of_three_parts = refl

gap_before_an_open_comment : gap (codes " /* a /* b */") ≡ 1
gap_before_an_open_comment = refl
