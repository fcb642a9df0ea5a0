-- Texts that a lexer accepts.
use Rattle.std.specs.Prelude.{◌≡◌, ℕ, List, None}
use Rattle.std.specs.List.{AllByRecursion}
use Rattle.std.specs.Str.{IsUtf8}
use Rattle.wac_lexer.specs.Characters.{refused}
use Rattle.wac_lexer.specs.Item.{Item}

-- a text without rejected characters
abbrev pub IsAccepted : List ℕ → Type 0
IsAccepted t = IsUtf8 t × (refused t ≡ None)

-- the text and the docs of an item have none
abbrev pub ItemIsAccepted : Item → Type 0
ItemIsAccepted item = IsAccepted item.text × AllByRecursion (λ d. IsAccepted d.comment) item.docs
