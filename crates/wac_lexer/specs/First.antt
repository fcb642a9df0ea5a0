-- What the first item of a text is, where the text begins after a gap.
use Rattle.std.specs.Prelude.{◌≡◌, ◌≢◌, ◌<◌, ◌↔◌, ℕ, false, true, List, ◌∷◌, length, Some, Result, Ok, Err}
use Rattle.std.specs.List.{AllByRecursion}
use Rattle.wac_lexer.specs.Ascii.{quotation_mark}
use Rattle.wac_lexer.specs.Comments.{opens}
use Rattle.wac_lexer.specs.Items.{first_char_len, first_item}
use Rattle.wac_lexer.specs.Tokens.{IsLongest, HasNone}
use Rattle.wac_lexer.specs.declared.token.Token.{Token}
use Rattle.wac_lexer.specs.declared.error.Error.{Error}
use Rattle.wac_lexer.specs.declared.error.Error.TheVariants.{UnexpectedToken, UnterminatedString, UnterminatedComment}

-- a quote that no other follows
abbrev pub IsOpenQuote : List ℕ → Type 0
IsOpenQuote text = (rest : List ℕ) × (text ≡ quotation_mark ∷ rest) × AllByRecursion (λ b. b ≢ quotation_mark) rest

-- Where `/*` begins, a comment without an end takes all that is left. A quote that no other follows is a fault of
-- one byte. Else the longest prefix that is a token, and where there is none a fault of one character.
pub data IsFirst : List ℕ → Result Token Error → ℕ → Type 0 where
  comment : {text : List ℕ} → opens text ≡ true → IsFirst text (Err UnterminatedComment) (length text)
  quote : {text : List ℕ} → IsOpenQuote text → IsFirst text (Err UnterminatedString) 1
  token : {text : List ℕ} {n : ℕ} {found : Token} → opens text ≡ false → IsLongest text n found → IsFirst text (Ok found) n
  character : {b : ℕ} {text : List ℕ} → opens (b ∷ text) ≡ false → b ≢ quotation_mark → HasNone (b ∷ text) → IsFirst (b ∷ text) (Err UnexpectedToken) (first_char_len (b ∷ text))

-- the item that is found of a text of bytes, with its length, is what the text begins with
abbrev pub FindsFirst : List ℕ → Result Token Error → ℕ → Type 0
FindsFirst text item n =
    AllByRecursion (λ b. b < 256) text → first_item text ≡ Some (item, n) ↔ IsFirst text item n
