-- The comments of a text.
use Rattle.std.specs.Prelude.{◌≡◌, refl, codes, ℕ, Bool, List, [], ◌∷◌, map, filter, if◌then◌else◌}
use Rattle.std.specs.List.{filter_map, list_any}
use Rattle.wac_lexer.specs.Docs.{doc_text}
use Rattle.wac_lexer.specs.Span.{span}
use Rattle.wac_lexer.specs.Items.{items_from}
use Rattle.wac_comments_layout.specs.Kept.{is_comment, is_doc, is_line}
use Rattle.wac_comments_layout.specs.Pieces.{Piece, comments_at, pieces, texts}
use Rattle.wac_comments.specs.declared.listing.Comment.{Comment}
use Rattle.wac_comments.specs.declared.listing.CommentKind.{CommentKind}
use Rattle.wac_comments.specs.declared.listing.CommentKind.TheVariants.{Line, Block, Doc}

-- what a comment is
abbrev pub kind_of : List ℕ → CommentKind
kind_of comment = if is_doc comment then Doc else (if is_line comment then Line else Block)

abbrev pub comment_of : Piece → Comment
comment_of piece = record { span = piece.span; kind = kind_of piece.text }

-- those of pieces that are comments
abbrev pub comments_among : List Piece → List Comment
comments_among found = map comment_of (filter (λ p. is_comment p.text) found)

-- the comments of a text, in order
abbrev pub comments : List ℕ → List Comment
comments source = comments_among (pieces source)

-- the texts of a text's comments
abbrev pub comment_texts : List ℕ → List (List ℕ)
comment_texts source = filter is_comment (texts source)

-- the texts of a text's docs: of all comments that the parser takes as docs where docs may stand
abbrev pub doc_texts : List ℕ → List (List ℕ)
doc_texts source = filter_map doc_text (comment_texts source)

-- whether a text has a comment
abbrev pub has_comments : List ℕ → Bool
has_comments source = list_any is_comment (texts source)

-- example
three_kinds : comments (codes "/// a\nb /* c */ // d") ≡ record { span = span 0 5; kind = Doc } ∷ record { span = span 8 7; kind = Block } ∷ record { span = span 16 4; kind = Line } ∷ []
unfolding comments_at items_from
three_kinds = refl
