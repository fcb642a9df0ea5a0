-- The pieces of a text: its tokens and comments, in order.
use Rattle.std.specs.Prelude.{◌≡◌, refl, codes, ℕ, zero, suc, ◌+◌, List, [], ◌∷◌, ◌++◌, take, drop, length, map, nat_lt, if◌then◌else◌, ◌==◌}
use Rattle.wac_lexer.specs.Span.{Span, span, end_of}
use Rattle.wac_lexer.specs.Comments.{part_len}
use Rattle.wac_lexer.specs.Item.{Item}
use Rattle.wac_lexer.specs.Items.{items, items_from}
use Rattle.wac_comments_layout.specs.Kept.{kept}

-- a token, a comment or the end of a text: its text, and its span
pub record Piece : Type 0 where
  pub text : List ℕ
  pub span : Span

abbrev pub piece : List ℕ → Span → Piece
piece text span = record { text = text; span = span }

-- the comment that a blank or a comment is, which stands at a place: a blank has one byte, and a comment has more
abbrev pub comment_of_part : ℕ → List ℕ → List Piece
comment_of_part place part = if nat_lt (length part) 2 then [] else piece (kept part) (span place (length part)) ∷ []

-- the comments among up to n blanks and comments after a place
abbrev pub comments_upto : ℕ → List ℕ → ℕ → List Piece
comments_upto zero source place = []
comments_upto (suc n) source place =
    let len = part_len (drop place source) in
    if len == 0 then [] else comment_of_part place (take len (drop place source)) ++ comments_upto n source (place + len)

-- the comments in the gap after a place
unfoldable pub comments_at : List ℕ → ℕ → List Piece
comments_at source place = comments_upto (length source) source place

abbrev pub piece_of_item : Item → Piece
piece_of_item item = piece item.text item.span

-- the end of a text, which is an empty piece
abbrev pub end_piece : List ℕ → Piece
end_piece source = piece [] (span (length source) 0)

-- these items, each with the comments in the gap before it, and the end with those in the last gap
abbrev pub pieces_after : List ℕ → ℕ → List Item → List Piece
pieces_after source place [] = comments_at source place ++ end_piece source ∷ []
pieces_after source place (item ∷ items) = comments_at source place ++ piece_of_item item ∷ pieces_after source (end_of item.span) items

-- all pieces of a text
abbrev pub pieces : List ℕ → List Piece
pieces source = pieces_after source 0 (items source)

-- their texts
abbrev pub texts : List ℕ → List (List ℕ)
texts source = map (λ p. p.text) (pieces source)

-- example
comments_and_tokens : texts (codes "a // b \n/* c */;") ≡ codes "a" ∷ codes "// b" ∷ codes "/* c */" ∷ codes ";" ∷ [] ∷ []
unfolding comments_at items_from
comments_and_tokens = refl
