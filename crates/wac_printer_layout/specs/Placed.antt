-- The items that printed pieces are meant to be read back as.
use Rattle.std.specs.Prelude.{◌≡◌, ℕ, ◌+◌, Bool, List, [], ◌∷◌, ◌++◌, length, map, Some, None, Result, Ok, Err, codes, refl, true}
use Rattle.wac_lexer.specs.Span.{span}
use Rattle.wac_lexer.specs.Item.{Item, Doc}
use Rattle.wac_lexer.specs.Tokens.{token_of}
use Rattle.wac_lexer.specs.declared.token.Token.{Token}
use Rattle.wac_lexer.specs.declared.token.Token.TheVariants as tokens
use Rattle.wac_lexer.specs.declared.error.Error.{Error}
use Rattle.wac_lexer.specs.declared.error.Error.TheVariants.{UnexpectedToken}
use Rattle.wac_printer_layout.specs.Printed.{Piece, token, blank, line, doc, text_of, fresh_after}

-- the token that a text is
abbrev pub kind_of : List ℕ → Result Token Error
kind_of t = elim (token_of t) [ Some k ↦ Ok k | None ↦ Err UnexpectedToken ]

-- a doc before items is the first one's
abbrev pub with_docs : List Doc → List Item → List Item
with_docs docs [] = []
with_docs docs (item ∷ items) = record item { docs = docs ++ item.docs } ∷ items

-- what a piece makes of the items after it
abbrev pub placed_before : ℕ → Piece → List Item → List Item
placed_before place (token t) items = record { token = kind_of t; text = t; span = span place (length t); docs = [] } ∷ items
placed_before place (blank t) items = items
placed_before place (line depth) items = items
placed_before place (doc t) items = with_docs (record { comment = t; span = span place (4 + length t) } ∷ []) items

-- the items of pieces that begin at a place: a token piece is an item at its own place, and a doc piece is a doc of the item after it
abbrev pub placed : ℕ → List ℕ → Bool → List Piece → List Item
placed place space fresh [] = []
placed place space fresh (p ∷ ps) =
    let t = text_of space fresh p in
    placed_before place p (placed (place + length t) space (fresh_after fresh t) ps)

-- docs, and a word one deeper
words : placed 0 (codes "\t") true (line 1 ∷ doc (codes "a") ∷ blank (codes "\n") ∷ line 1 ∷ token (codes "let") ∷ blank (codes " ") ∷ token (codes "x") ∷ [])
    ≡ record { token = Ok tokens.LetKeyword; text = codes "let"; span = span 8 3; docs = record { comment = codes "a"; span = span 1 5 } ∷ [] }
    ∷ record { token = Ok tokens.Ident; text = codes "x"; span = span 12 1; docs = [] } ∷ []
words = refl

-- what pieces are meant to say: each token's kind and text, and the texts of the docs before it
pub record Said : Type 0 where
  pub token : Result Token Error
  pub text : List ℕ
  pub docs : List (List ℕ)

abbrev pub said_of : Item → Said
said_of item = record { token = item.token; text = item.text; docs = map (λ d. d.comment) item.docs }

abbrev pub before_said : List (List ℕ) → List Said → List Said
before_said docs [] = []
before_said docs (x ∷ xs) = record x { docs = docs ++ x.docs } ∷ xs

abbrev pub said_before : Piece → List Said → List Said
said_before (token t) others = record { token = kind_of t; text = t; docs = [] } ∷ others
said_before (blank t) others = others
said_before (line depth) others = others
said_before (doc t) others = before_said (t ∷ []) others

abbrev pub said : List Piece → List Said
said [] = []
said (p ∷ ps) = said_before p (said ps)
