-- A printed text as a list of pieces, and what it writes.
use Rattle.std.specs.Prelude.{codes, ℕ, zero, suc, ◌+◌, Bool, cond, nat_eq, List, [], ◌∷◌, ◌++◌, if◌then◌else◌}
use Rattle.wac_lexer.specs.Ascii.{line_feed}

-- what a printed text consists of
pub data Piece : Type 0 where
  -- the text of a token
  token : List ℕ → Piece
  -- blanks
  blank : List ℕ → Piece
  -- the indentation of this depth, where nothing is on the line yet
  line : ℕ → Piece
  -- a line of docs, without its `/// `
  doc : List ℕ → Piece

-- the text so many times
abbrev pub times : ℕ → List ℕ → List ℕ
times zero text = []
times (suc n) text = text ++ times n text

-- whether nothing is on the line after a text: where the text is empty, as before it
abbrev pub fresh_after : Bool → List ℕ → Bool
fresh_after fresh [] = fresh
fresh_after fresh (b ∷ text) = fresh_after (nat_eq b line_feed) text

-- what a piece writes
abbrev pub text_of : List ℕ → Bool → Piece → List ℕ
text_of space fresh (token text) = text
text_of space fresh (blank text) = text
text_of space fresh (line depth) = if fresh then times depth space else []
text_of space fresh (doc text) = codes "/// " ++ text

-- what pieces write, in order
abbrev pub text : List ℕ → Bool → List Piece → List ℕ
text space fresh [] = []
text space fresh (p ∷ ps) = text_of space fresh p ++ text space (fresh_after fresh (text_of space fresh p)) ps

-- whether nothing is on the line after pieces
abbrev pub fresh_after_token : List ℕ → Bool → List Piece → Bool
fresh_after_token space fresh [] = fresh
fresh_after_token space fresh (p ∷ ps) = fresh_after_token space (fresh_after fresh (text_of space fresh p)) ps

-- one deeper, up to the greatest number
abbrev pub deeper : ℕ → ℕ
deeper depth = cond (nat_eq depth 18446744073709551615) depth (depth + 1)
