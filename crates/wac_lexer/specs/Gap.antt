-- The gap before an item: a sequence of blanks and comments.
use Rattle.std.specs.Prelude.{◌≡◌, ◌≢◌, ◌≤◌, ◌⊎◌, ℕ, ◌+◌, true, List, [], ◌∷◌, ◌++◌, drop, length, codes}
use Rattle.std.specs.List.{concat, AllByRecursion}
use Rattle.wac_lexer.specs.Ascii.{line_feed}
use Rattle.wac_lexer.specs.Comments.{Inside, gap, is_blank}
use Rattle.wac_lexer.specs.Docs.{doc_of_part, docs_at}
use Rattle.wac_lexer.specs.Item.{Doc}

-- a space, TAB, CR or LF
abbrev pub IsBlank : List ℕ → Type 0
IsBlank part = (b : ℕ) × (part ≡ b ∷ []) × (is_blank b ≡ true)

-- the text ends here, or LF follows
abbrev pub EndsLine : List ℕ → Type 0
EndsLine [] = Unit {0}
EndsLine (b ∷ rest) = b ≡ line_feed

-- a line comment before the rest: `//`, and all up to before LF or the end
abbrev pub IsLineComment : List ℕ → List ℕ → Type 0
IsLineComment part rest = (line : List ℕ) × (part ≡ codes "//" ++ line) × AllByRecursion (λ b. b ≢ line_feed) line × EndsLine rest

-- a block comment before the rest: `/*`, pieces, and `*/`
abbrev pub IsBlockComment : List ℕ → List ℕ → Type 0
IsBlockComment part rest = (inner : List ℕ) × (part ≡ codes "/*" ++ inner) × Inside (inner ++ rest) rest

abbrev pub IsPart : List ℕ → List ℕ → Type 0
IsPart part rest = IsBlank part ⊎ (IsLineComment part rest ⊎ IsBlockComment part rest)

-- the text begins with these blanks and comments, and continues with the rest
abbrev pub Gap : List ℕ → List (List ℕ) → List ℕ → Type 0
Gap text [] rest = text ≡ rest
Gap text (part ∷ parts) rest = (next : List ℕ) × (text ≡ part ++ next) × IsPart part next × Gap next parts rest

-- the first n bytes of the text are a gap, and no prefix that is a gap is longer
pub record IsLongestGap (text : List ℕ) (n : ℕ) : Type 0 where
  pub parts : List (List ℕ)
  pub is : Gap text parts (drop n text)
  pub longest : (others : List (List ℕ)) (rest : List ℕ) → Gap text others rest → length (concat others) ≤ n

-- the docs among blanks and comments that begin at a place
abbrev pub docs_among : ℕ → List (List ℕ) → List Doc
docs_among place [] = []
docs_among place (part ∷ parts) = doc_of_part place part ++ docs_among (place + length part) parts

-- the docs of a place are those among the blanks and comments of its gap
abbrev pub DocsStandInGap : List ℕ → ℕ → List (List ℕ) → Type 0
DocsStandInGap source place parts =
    let text = drop place source in
    Gap text parts (drop (gap text) text) → docs_at source place ≡ docs_among place parts
