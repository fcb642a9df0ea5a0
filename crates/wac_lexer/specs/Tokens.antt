-- Which token a whole text is, and the longest prefix of a text that is one.
use Rattle.std.specs.Prelude.{◌≡◌, ◌<◌, ◌≤◌, ◌⊎◌, ℕ, zero, suc, List, [], ◌∷◌, take, length, Option, Some, None, MatchOption, codes, refl, if◌then◌else◌}
use Rattle.wac_lexer.specs.Pattern.{Matches, matches}
use Rattle.wac_lexer.specs.Shapes.{id, package_name, package_path, quoted}
use Rattle.wac_lexer.specs.Words.{find, fixed_texts, keywords}
use Rattle.wac_lexer.specs.declared.token.Token.{Token}
use Rattle.wac_lexer.specs.declared.token.Token.TheVariants.{Ident, PackageName, PackagePath, String, Ellipsis, ImportKeyword}

-- A keyword and a symbol are one text each. Each other text of an identifier is one, and so on.
abbrev pub token_of : List ℕ → Option Token
token_of text =
    elim (find text fixed_texts) [
      | Some token ↦ Some token
      | None ↦
          if matches id text then Some Ident
          else (if matches package_name text then Some PackageName
          else (if matches package_path text then Some PackagePath
          else (if matches quoted text then Some String else None)))
    ]

-- the longest match with at most n bytes that is a token: its length, and which
abbrev pub longest_token : List ℕ → ℕ → Option (ℕ × Token)
longest_token text zero = None
longest_token text (suc n) = elim (token_of (take (suc n) text)) [ Some token ↦ Some (suc n, token) | None ↦ longest_token text n ]

-- the entry is in the table
abbrev pub InTable : List ℕ → Token → List (List ℕ × Token) → Type 0
InTable text token [] = ⊥
InTable text token (entry ∷ table) = ((text ≡ entry.0) × (token ≡ entry.1)) ⊎ InTable text token table

-- The same as sets of whole texts, one for each token.
pub data IsToken : Token → List ℕ → Type 0 where
  fixed : {token : Token} {text : List ℕ} → InTable text token fixed_texts → IsToken token text
  identifier : {text : List ℕ} → Matches id text → ((keyword : Token) → ¬ (InTable text keyword keywords)) → IsToken Ident text
  string : {text : List ℕ} → Matches quoted text → IsToken String text
  name : {text : List ℕ} → Matches package_name text → IsToken PackageName text
  path : {text : List ℕ} → Matches package_path text → IsToken PackagePath text

-- the prefix of n bytes is this token, and no longer prefix is any
pub record IsLongest (text : List ℕ) (n : ℕ) (token : Token) : Type 0 where
  pub some : 0 < n
  pub within : n ≤ length text
  pub is : IsToken token (take n text)
  pub longest : (m : ℕ) (other : Token) → n < m → m ≤ length text → ¬ (IsToken other (take m text))

-- no prefix is a token
abbrev pub HasNone : List ℕ → Type 0
HasNone text = (m : ℕ) (token : Token) → m ≤ length text → ¬ (IsToken token (take m text))

-- what is found of a text is its longest prefix that is a token, or that no prefix is
abbrev pub FindsLongest : List ℕ → Option (ℕ × Token) → Type 0
FindsLongest text found = MatchOption found (HasNone text) (λ f. IsLongest text f.0 f.1)

-- examples
word_of_one_case : longest_token (codes "foo-Bar") 7 ≡ Some (5, Ident)
word_of_one_case = refl

version_ends_before_its_point : longest_token (codes "foo-bar:b@1.0.") 14 ≡ Some (13, PackageName)
version_ends_before_its_point = refl

three_dots : longest_token (codes "....") 4 ≡ Some (3, Ellipsis)
three_dots = refl

keyword_within_a_word : longest_token (codes "import-x") 8 ≡ Some (8, Ident)
keyword_within_a_word = refl

keyword_before_a_blank : longest_token (codes "import x") 8 ≡ Some (6, ImportKeyword)
keyword_before_a_blank = refl

name_with_a_keyword : longest_token (codes "x:string y") 10 ≡ Some (8, PackageName)
name_with_a_keyword = refl

path_with_a_version : longest_token (codes "foo:bar/baz@1.2.3----RC-SNAPSHOT.12.9.1--.12+788") 48 ≡ Some (48, PackagePath)
path_with_a_version = refl
