-- What may follow a token, so that the token is read back.
use Rattle.std.specs.Prelude.{◌≡◌, ℕ, true, false, List, ◌∷◌, ◌++◌, length, Some, Ok, codes, refl}
use Rattle.wac_lexer.specs.Ascii.{slash}
use Rattle.wac_lexer.specs.Comments.{begins, gap, is_blank, opens}
use Rattle.wac_lexer.specs.Items.{first_item}
use Rattle.wac_lexer.specs.Tokens.{IsLongest, longest_token}
use Rattle.wac_lexer.specs.declared.token.Token.{Token}
use Rattle.wac_lexer.specs.declared.token.Token.TheVariants.{Ident, PackageName, PackagePath, Dot, Ellipsis}

-- The rest may follow the text, which is this token: of the two together the text is the longest prefix that is a
-- token, and no comment begins with it.
pub record Follows (token : Token) (text rest : List ℕ) : Type 0 where
  pub longest : IsLongest (text ++ rest) (length text) token
  pub no_line : begins slash slash (text ++ rest) ≡ false
  pub no_block : opens (text ++ rest) ≡ false

-- Before the rest the text is read back as this token: no gap comes first, and the token takes the whole text.
abbrev pub IsReadBack : Token → List ℕ → List ℕ → Type 0
IsReadBack token text rest =
    (gap (text ++ rest) ≡ 0) × (first_item (text ++ rest) ≡ Some (Ok token, length text))

-- where this byte is a space, TAB, CR or LF, the token ends before it: what begins with it may follow the text
abbrev pub EndsAtBlank : Token → List ℕ → ℕ → List ℕ → Type 0
EndsAtBlank token text b rest = is_blank b ≡ true → Follows token text (b ∷ rest)

-- a word stays one before a colon and a blank, and without the blank it is a part of a package's name
word_colon_blank : longest_token (codes "x: string") 9 ≡ Some (1, Ident)
word_colon_blank = refl

word_colon_word : longest_token (codes "x:string") 8 ≡ Some (8, PackageName)
word_colon_word = refl

-- a path stays one before `.{`, and `.x` continues its version
path_dot_brace : longest_token (codes "a:b/c@1.{") 9 ≡ Some (7, PackagePath)
path_dot_brace = refl

path_dot_word : longest_token (codes "a:b/c@1.x") 9 ≡ Some (9, PackagePath)
path_dot_word = refl

-- two more dots continue a dot
dot_word : longest_token (codes ".x") 2 ≡ Some (1, Dot)
dot_word = refl

dot_dots : longest_token (codes "...") 3 ≡ Some (3, Ellipsis)
dot_dots = refl
