-- What may follow a token, as the walk over a text finds it.
use Rattle.wac_lexer.proofs.Common.{◌≡◌, ℕ, Bool, true, false, ◌&&◌, not, List, [], ◌∷◌, is_some, if◌then◌else◌, codes, refl}
use Rattle.wac_lexer.specs.declared.token.Token.{Token}
use Rattle.wac_lexer.specs.declared.token.Token.TheVariants as tokens
use Rattle.wac_lexer.specs.Automaton.Package.{Name, Path}
use Rattle.wac_lexer.specs.Automaton.Part.{First, Later}
use Rattle.wac_lexer.specs.Automaton.{State}
use Rattle.wac_lexer.specs.Automaton.State.{Small, Capital, Digits, Tail, Closed, OneDot, Ended, Dead}
use Rattle.wac_lexer.specs.Automaton.{class_of, step_of, shape_at}
use Rattle.wac_lexer.specs.Comments.{begins, opens}

-- the state after a text
abbrev pub run : State → List ℕ → State
run state [] = state
run state (b ∷ text) = run (step_of state (class_of b)) text

abbrev pub is_dead : State → Bool
is_dead Dead = true
is_dead state = false

-- from this state no prefix of the text leads to a state in which a token ends
abbrev pub quiet : State → List ℕ → Bool
quiet state [] = true
quiet state (b ∷ text) =
    let next = step_of state (class_of b) in
    if is_dead next then true else (not (is_some (shape_at next)) && quiet next text)

-- the states in which a token of this kind ends
abbrev pub ends : Token → List State
ends tokens.PackageName = Small (Later Name) ∷ Capital (Later Name) ∷ Digits Name ∷ Tail Name ∷ []
ends tokens.PackagePath = Small (Later Path) ∷ Capital (Later Path) ∷ Digits Path ∷ Tail Path ∷ []
ends tokens.String = Closed ∷ []
ends tokens.Dot = OneDot ∷ []
ends tokens.Semicolon = Ended ∷ []
ends tokens.OpenBrace = Ended ∷ []
ends tokens.CloseBrace = Ended ∷ []
ends tokens.Colon = Ended ∷ []
ends tokens.Equals = Ended ∷ []
ends tokens.OpenParen = Ended ∷ []
ends tokens.CloseParen = Ended ∷ []
ends tokens.Arrow = Ended ∷ []
ends tokens.OpenAngle = Ended ∷ []
ends tokens.CloseAngle = Ended ∷ []
ends tokens.Underscore = Ended ∷ []
ends tokens.OpenBracket = Ended ∷ []
ends tokens.CloseBracket = Ended ∷ []
ends tokens.Ellipsis = Ended ∷ []
ends tokens.Comma = Ended ∷ []
ends tokens.Slash = Ended ∷ []
ends tokens.At = Ended ∷ []
ends word = Small First ∷ Capital First ∷ []

abbrev pub all_quiet : List State → List ℕ → Bool
all_quiet [] rest = true
all_quiet (state ∷ states) rest = quiet state rest && all_quiet states rest

-- The rest may follow each token of this kind: no prefix of it continues the token, and no comment begins.
abbrev pub follows : Token → List ℕ → Bool
follows tokens.Slash rest = not (begins 47 47 (47 ∷ rest)) && not (opens (47 ∷ rest))
follows kind rest = all_quiet (ends kind) rest

-- a word: before a blank, LF, `;`, `,`, `.`, `(`, `)`, `<`, `>`, `[`, `:` and a blank, and the end
word_blank : (u : List ℕ) → follows tokens.Ident (32 ∷ u) ≡ true
word_blank u = refl

word_line : (u : List ℕ) → follows tokens.Ident (10 ∷ u) ≡ true
word_line u = refl

word_semicolon : (u : List ℕ) → follows tokens.Ident (59 ∷ u) ≡ true
word_semicolon u = refl

word_comma : (u : List ℕ) → follows tokens.Ident (44 ∷ u) ≡ true
word_comma u = refl

word_dot : (u : List ℕ) → follows tokens.Ident (46 ∷ u) ≡ true
word_dot u = refl

word_open : (u : List ℕ) → follows tokens.Ident (40 ∷ u) ≡ true
word_open u = refl

word_close : (u : List ℕ) → follows tokens.Ident (41 ∷ u) ≡ true
word_close u = refl

word_angle : (u : List ℕ) → follows tokens.Ident (60 ∷ u) ≡ true
word_angle u = refl

word_shut : (u : List ℕ) → follows tokens.Ident (62 ∷ u) ≡ true
word_shut u = refl

word_bracket : (u : List ℕ) → follows tokens.Ident (91 ∷ u) ≡ true
word_bracket u = refl

word_colon_blank : (u : List ℕ) → follows tokens.Ident (58 ∷ 32 ∷ u) ≡ true
word_colon_blank u = refl

word_end : follows tokens.Ident [] ≡ true
word_end = refl

-- without the blank it is a package name
word_colon_word : follows tokens.Ident (codes ":string") ≡ false
word_colon_word = refl

-- a package name: before a blank and `;`
name_blank : (u : List ℕ) → follows tokens.PackageName (32 ∷ u) ≡ true
name_blank u = refl

name_semicolon : (u : List ℕ) → follows tokens.PackageName (59 ∷ u) ≡ true
name_semicolon u = refl

-- a package path: before a blank, `;`, and `.{`
path_blank : (u : List ℕ) → follows tokens.PackagePath (32 ∷ u) ≡ true
path_blank u = refl

path_semicolon : (u : List ℕ) → follows tokens.PackagePath (59 ∷ u) ≡ true
path_semicolon u = refl

path_dot_brace : (u : List ℕ) → follows tokens.PackagePath (46 ∷ 123 ∷ u) ≡ true
path_dot_brace u = refl

-- `.x` continues the version of a path
path_dot_word : follows tokens.PackagePath (codes ".x") ≡ false
path_dot_word = refl

-- two more dots continue a dot
dot_dots : follows tokens.Dot (codes "..") ≡ false
dot_dots = refl

dot_word : follows tokens.Dot (codes "x") ≡ true
dot_word = refl
