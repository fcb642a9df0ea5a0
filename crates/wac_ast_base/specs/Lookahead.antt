-- Trying tokens at the next item.
use Rattle.std.specs.Prelude.{◌≡◌, ℕ, ◌+◌, ◌-◌, ◌^◌, Bool, false, ◌||◌, List, [], ◌∷◌, ◌++◌, take, min, Option, Some, None, Ok, Err, if◌then◌else◌}
use Rattle.wac_lexer.specs.Span.{Span}
use Rattle.wac_lexer.specs.Item.{NextToken, next_token}
use Rattle.wac_lexer.specs.Reading.{Reading, left, shown}
use Rattle.wac_lexer.specs.declared.token.Token.{Token}
use Rattle.wac_ast_grammar.specs.Tokens.{is_token}
use Rattle.wac_ast_base.specs.Error.{Told, faulty, expected, places}

-- what is next, the span that is reported at the end of the input, the first ten tokens that were tried, and how many were
pub record Looked : Type 0 where
  pub next : NextToken
  pub span : Span
  pub kept : List Token
  pub count : ℕ

-- before a token is tried
abbrev pub looked : Reading → Looked
looked l = record { next = next_token (left l); span = shown l.source l.last; kept = []; count = 0 }

abbrev pub is_next : Token → NextToken → Bool
is_next token None = false
is_next token (Some x) = is_token token x.0

abbrev pub is_one_of : List Token → NextToken → Bool
is_one_of [] next = false
is_one_of (token ∷ tokens) next = is_next token next || is_one_of tokens next

-- after these tokens were tried too: ten are kept, and the count stops at the greatest that its type has
abbrev pub tried : List Token → Looked → Looked
tried [] l = l
tried (token ∷ tokens) l = tried tokens (record l { kept = take 10 (l.kept ++ token ∷ []); count = min (l.count + 1) (2 ^ 64 - 1) })

-- the tokens in places
abbrev pub kept_in : List (Option Token) → List Token
kept_in [] = []
kept_in (None ∷ others) = kept_in others
kept_in (Some token ∷ others) = token ∷ kept_in others

-- The places are filled from the front.
abbrev pub InFront : List (Option Token) → Type 0
InFront attempts = attempts ≡ places 10 (kept_in attempts)

-- what is reported at an item: its own fault, or that another token, or the end, was found
abbrev pub refusal : NextToken → Span → (Option Token → Span → Told) → Told
refusal None end other = other None end
refusal (Some (Ok token, span)) end other = other (Some token) span
refusal (Some (Err fault, span)) end other = faulty fault span

-- what is reported where none of the tokens that were tried is next
abbrev pub told_of : Looked → Told
told_of l = refusal l.next l.span (expected l.kept l.count)

-- after a look for one of these tokens: each was tried, up to the first that is next
abbrev pub peeked : List Token → Looked → Looked
peeked [] l = l
peeked (token ∷ tokens) l = if is_next token l.next then l else peeked tokens (tried (token ∷ []) l)

-- Whether the next item is one of these tokens. Those before it were tried, or all if it isn't.
pub record Peeks (firsts : List Token) (result : Bool) (old new : Looked) : Type 0 where
  pub found : result ≡ is_one_of firsts old.next
  pub kept : new ≡ peeked firsts old

-- what is reported of a fault
abbrev pub fault_at : NextToken → Option Told
fault_at None = None
fault_at (Some (Ok token, span)) = None
fault_at (Some (Err fault, span)) = Some (faulty fault span)

-- what is reported of a fault that is next
abbrev pub next_fault : Reading → Option Told
next_fault l = fault_at (next_token (left l))
