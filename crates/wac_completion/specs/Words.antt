-- The word at the end of a text.
use Rattle.std.specs.Prelude.{◌≡◌, ℕ, ◌-◌, ◌≤◌, ◌<◌, Bool, true, false, ◌||◌, ◌&&◌, nat_eq, nat_le, List, take, slice_index, length, ◌⊎◌}
use Rattle.std.specs.Str.{IsCharBoundary}
use Rattle.wac_lexer.specs.declared.token.Token.{Token}
use Rattle.wac_completion.specs.Standing.{AreKinds}

-- a letter, a digit, `-` or `%`
abbrev pub is_word : ℕ → Bool
is_word b =
    (nat_le 97 b && nat_le b 122) || ((nat_le 65 b && nat_le b 90) ||
    ((nat_le 48 b && nat_le b 57) || (nat_eq b 45 || nat_eq b 37)))

-- The word at the end of a text begins here: from here on there are its bytes alone, and before it none. It may be empty.
pub record WordBegins (text : List ℕ) (at : ℕ) : Type 0 where
  pub within : at ≤ length text
  pub word : (i : ℕ) → at ≤ i → i < length text → is_word (slice_index text i) ≡ true
  pub begins : (at ≡ 0) ⊎ (is_word (slice_index text (at - 1)) ≡ false)

-- These are the kinds that can stand at an offset between two characters: after the text before it, without the word at
-- that text's end.
abbrev pub AreKindsAt : List ℕ → ℕ → List Token → Type 0
AreKindsAt source offset found =
    IsCharBoundary source offset →
    (at : ℕ) × WordBegins (take offset source) at × AreKinds (take at (take offset source)) found
