-- Pieces that join: each is what it is meant to be, has no rejected character,
-- and what follows a token doesn't continue it.
use Rattle.std.specs.Prelude.{◌≡◌, ◌≢◌, ℕ, Bool, true, List, [], ◌∷◌, ◌++◌}
use Rattle.std.specs.List.{AllByRecursion}
use Rattle.std.specs.Str.{trim}
use Rattle.wac_lexer.specs.Ascii.{line_feed}
use Rattle.wac_lexer.specs.Comments.{is_blank}
use Rattle.wac_lexer.specs.Follow.{Follows}
use Rattle.wac_lexer.specs.Gap.{EndsLine}
use Rattle.wac_lexer.specs.declared.token.Token.{Token}
use Rattle.wac_printer_layout.specs.Accepted.{IsAccepted}
use Rattle.wac_printer_layout.specs.Printed.{Piece, token, blank, line, doc, text_of, text, fresh_after}

-- the text is a token that the rest may follow, and has no rejected characters
pub record Stands (t rest : List ℕ) : Type 0 where
  pub kind : Token
  pub follows : Follows kind t rest
  pub accepted : IsAccepted t

-- spaces, TAB, CR and LF
abbrev pub AreBlanks : List ℕ → Type 0
AreBlanks t = AllByRecursion (λ b. is_blank b ≡ true) t

-- a line of docs: trimmed, and without LF and rejected characters
abbrev pub IsDocLine : List ℕ → Type 0
IsDocLine t = IsAccepted t × (trim t ≡ t) × AllByRecursion (λ b. b ≢ line_feed) t

-- a piece is what it is meant to be before the rest
abbrev pub Fits : List ℕ → Piece → Type 0
Fits rest (token t) = Stands t rest
Fits rest (blank t) = AreBlanks t
Fits rest (line depth) = Unit {0}
Fits rest (doc t) = IsDocLine t × EndsLine rest

-- pieces before the rest join
abbrev pub JoinsBefore : List ℕ → List ℕ → Bool → List Piece → Type 0
JoinsBefore rest space fresh [] = Unit {0}
JoinsBefore rest space fresh (p ∷ ps) =
    let later = fresh_after fresh (text_of space fresh p) in
    Fits (text space later ps ++ rest) p × JoinsBefore rest space later ps

-- pieces join
abbrev pub Joins : List ℕ → Bool → List Piece → Type 0
Joins space fresh ps = JoinsBefore [] space fresh ps
