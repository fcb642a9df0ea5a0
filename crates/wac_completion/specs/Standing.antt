-- Which tokens can stand after a text.
use Rattle.std.specs.Prelude.{◌≡◌, ℕ, ◌+◌, nat_lt, Bool, true, false, not, ◌&&◌, List, [], ◌∷◌, ◌++◌, ◌⊎◌, length, Option, Some, None, MatchOption, if◌then◌else◌}
use Rattle.wac_lexer.specs.Characters.{refused}
use Rattle.wac_lexer.specs.Item.{Item, after_first_item}
use Rattle.wac_lexer.specs.Items.{items}
use Rattle.wac_lexer.specs.declared.token.Token.{Token}
use Rattle.wac_lexer.specs.declared.token.Token.TheVariants as t
use Rattle.wac_ast_grammar.specs.Grammar.{document}
use Rattle.wac_ast_grammar.specs.TokenTexts.{text_of}
use Rattle.wac_ast_grammar.specs.Tokens.{at, is_token}
use Rattle.wac_ast_grammar.specs.Viable.{Viable}
use Rattle.wac_ast_base.specs.Answer.{has_more}
use Rattle.wac_comments_layout.specs.Nesting.{too_deep}
use Rattle.wac_completion.specs.Kinds.{kinds}

-- a token, and perhaps another one right after it
abbrev pub sample : Token → Option Token → List ℕ
sample k None = text_of k
sample k (Some next) = text_of k ++ text_of next

-- what is tried after a text: a blank and these tokens
abbrev pub tried : List ℕ → Token → Option Token → List ℕ
tried text k next = text ++ (32 ∷ sample k next)

-- nothing but perhaps this token
abbrev pub are_rest : Option Token → List Item → Bool
are_rest None xs = not (has_more xs)
are_rest (Some k) xs = at k xs && not (has_more (after_first_item xs))

-- From a place on, the items are a token and perhaps another one.
abbrev pub reads_from : ℕ → Token → Option Token → List Item → Bool
reads_from place k next [] = false
reads_from place k next (x ∷ xs) =
    if nat_lt x.span.offset place then reads_from place k next xs else is_token k x.token && are_rest next xs

-- From a place on, a text has these tokens and nothing else; and no character of it is rejected.
abbrev pub Reads : List ℕ → ℕ → Token → Option Token → Type 0
Reads text place k next = (refused text ≡ None) × (reads_from place k next (items text) ≡ true)

-- Some document begins with a text, a blank and these tokens.
abbrev pub IsBegun : List ℕ → Token → Option Token → Type 0
IsBegun text k next = Reads (tried text k next) (length text + 1) k next × Viable document (items (tried text k next))

-- A token of a kind can stand after a text. Of a string the parser decides with the token after it, so it is tried with
-- each that the grammar has there: `:`, `;` and `]`.
abbrev pub CanFollow : List ℕ → Token → Type 0
CanFollow text t.String =
    IsBegun text t.String (Some t.Colon) ⊎ IsBegun text t.String (Some t.Semicolon)
    ⊎ IsBegun text t.String (Some t.CloseBracket)
CanFollow text k = IsBegun text k None

-- the second list has those of the first of which something holds, in order
abbrev pub Kept : (Token → Type 0) → List Token → List Token → Type 0
Kept P [] found = found ≡ []
Kept P (k ∷ ks) found = ((rest : List Token) × (found ≡ k ∷ rest) × P k × Kept P ks rest) ⊎ (¬ (P k) × Kept P ks found)

-- These are the kinds that can stand after a text. After one whose brackets are nested too deeply there is none.
abbrev pub AreKinds : List ℕ → List Token → Type 0
AreKinds text found = MatchOption (too_deep text) (Kept (CanFollow text) kinds found) (λ bracket. found ≡ [])
