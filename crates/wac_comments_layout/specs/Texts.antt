-- The pieces that the code has, as texts.
use Rattle.std.specs.Prelude.{◌≡◌, ℕ, List, ◌++◌, drop, map, take}
use Rattle.wac_comments_layout.specs.Pieces as spec
use Rattle.wac_comments_layout.specs.Pieces.{comment_of_part}
use Rattle.wac_comments_layout.specs.declared.pieces.Piece.{Piece}

-- the texts of pieces
abbrev pub texts_of : List Piece → List (List ℕ)
texts_of pieces = map (λ p. p.text.now) pieces

-- their texts and spans
abbrev pub pieces_of : List Piece → List spec.Piece
pieces_of pieces = map (λ p. record { text = p.text.now; span = p.span }) pieces

-- pieces, and more of them after
abbrev pub Adds : List Piece → List spec.Piece → List Piece → Type 0
Adds old more new = pieces_of new ≡ pieces_of old ++ more

-- the same, where more is the comment that begins at a place and takes this many bytes, if there is one
abbrev pub AddsPart : List Piece → List ℕ → ℕ → ℕ → List Piece → Type 0
AddsPart old source place len new = Adds old (comment_of_part place (take len (drop place source))) new
