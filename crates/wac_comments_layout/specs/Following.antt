-- What stands after a token, so that nothing of it continues the token: a test of the token and of two bytes. Where it fails there may be none.
use Rattle.std.specs.Prelude.{◌≡◌, refl, codes, ℕ, ◌≤◌, Bool, true, false, ◌&&◌, ◌||◌, not, nat_eq, nat_le, List, ◌∷◌, length, map, Some, None, slice_get, ◌⊎◌}
use Rattle.std.specs.List.{list_any}
use Rattle.std.specs.Str.{bytes_eq}
use Rattle.wac_lexer.specs.Ascii.{colon, full_stop, small_a, small_z, open_brace, slash}
use Rattle.wac_lexer.specs.Comments.{is_blank}
use Rattle.wac_lexer.specs.Items.{items_from}
use Rattle.wac_lexer.specs.Tokens.{token_of}
use Rattle.wac_lexer.specs.declared.token.Token.{Token}
use Rattle.wac_comments_layout.specs.Pieces.{Piece, pieces_after}

-- whether a byte continues no token: a blank, or one of ; , ( ) < > [ ] { }
abbrev pub ends_tokens : ℕ → Bool
ends_tokens b =
    is_blank b || (nat_eq b 59 || (nat_eq b 44 || (nat_eq b 40 || (nat_eq b 41 || (nat_eq b 60 || (nat_eq b 62 || (nat_eq b 91 || (nat_eq b 93 || (nat_eq b 123 || nat_eq b 125)))))))))

-- whether two bytes continue none: a colon or a dot before a blank, or a dot before a brace
abbrev pub end_tokens : ℕ → ℕ → Bool
end_tokens b c = (nat_eq b colon && is_blank c) || (nat_eq b full_stop && (is_blank c || nat_eq c open_brace))

-- whether what stands after continues no token
abbrev pub stands_apart : List ℕ → Bool
stands_apart after =
    elim (slice_get after 0) [
      | Some b ↦ ends_tokens b || elim (slice_get after 1) [ Some c ↦ end_tokens b c | None ↦ false ]
      | None ↦ true
    ]

-- whether nothing continues a token: ( < [ { and three dots
abbrev pub is_closed : List ℕ → Bool
is_closed token = bytes_eq token (codes "(") || (bytes_eq token (codes "<") || (bytes_eq token (codes "[") || (bytes_eq token (codes "{") || bytes_eq token (codes "..."))))

-- whether a word without a colon stands before a dot, or a dot before a small letter
abbrev pub is_access : List ℕ → List ℕ → Bool
is_access token after =
    elim (slice_get after 0) [
      | Some b ↦ (nat_eq b full_stop && (not (bytes_eq token (codes ".")) && not (list_any (λ t. nat_eq t colon) token))) || (bytes_eq token (codes ".") && (nat_le small_a b && nat_le b small_z))
      | None ↦ false
    ]

-- whether the test shows that what stands after a token doesn't continue it
abbrev pub may_follow : List ℕ → List ℕ → Bool
may_follow token after = stands_apart after || (is_closed token || is_access token after)

-- the texts of the pieces from a place of a text on
abbrev pub texts_from : List ℕ → ℕ → List (List ℕ)
texts_from source place = map (λ (p : Piece). p.text) (pieces_after source place (items_from source place))

-- the first piece after a place has this text, and ends there
abbrev pub FirstIs : List ℕ → ℕ → List ℕ → ℕ → Type 0
FirstIs source place text end = (end ≤ length source) × (texts_from source place ≡ text ∷ texts_from source end)

-- whether a text begins as comments do, or is empty
abbrev pub is_aside : List ℕ → Bool
is_aside text = elim (slice_get text 0) [ Some b ↦ nat_eq b slash | None ↦ true ]

-- each other text is a token's
abbrev pub IsPieceText : List ℕ → Type 0
IsPieceText text = (is_aside text ≡ true) ⊎ ((kind : Token) × (token_of text ≡ Some kind))

-- examples
word_before_a_dot : may_follow (codes "a") (codes ".b") ≡ true
word_before_a_dot = refl

version_before_a_dot : may_follow (codes "a:b/c@1") (codes ".b") ≡ false
version_before_a_dot = refl
