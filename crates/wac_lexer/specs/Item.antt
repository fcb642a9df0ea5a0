-- An item of a source, and what a call returns of a list of items.
use Rattle.std.specs.Prelude.{ℕ, List, [], ◌∷◌, Option, Some, None, Result}
use denote.Bor.{Bor}
use Rattle.wac_lexer.specs.Span.{Span}
use Rattle.wac_lexer.specs.declared.token.Token.{Token}
use Rattle.wac_lexer.specs.declared.error.Error.{Error}

-- a documentation comment: its text without the marks, and the span of the whole comment
pub record Doc : Type 0 where
  pub comment : List ℕ
  pub span : Span

-- a token or a fault, with its text, its span, and the docs of the place before it
pub record Item : Type 0 where
  pub token : Result Token Error
  pub text : List ℕ
  pub span : Span
  pub docs : List Doc

-- what a call returns of an item
abbrev pub NextToken : Type 0
NextToken = Option (Result Token Error × Span)

-- of the first item
abbrev pub next_token : List Item → NextToken
next_token [] = None
next_token (item ∷ items) = Some (item.token, item.span)

abbrev pub after_first_item : List Item → List Item
after_first_item [] = []
after_first_item (item ∷ items) = items

-- what the first item is, where there is one
abbrev pub OnFirst : List Item → (Item → Type 0) → Type 0
OnFirst [] P = Unit {0}
OnFirst (item ∷ items) P = P item

-- what a call says of a documentation comment
abbrev pub doc_of : Bor (List ℕ) × Span → Doc
doc_of found = record { comment = found.0.now; span = found.1 }
