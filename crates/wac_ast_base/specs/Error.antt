-- What an error reports, without where its texts lie in memory.
use Rattle.std.specs.Prelude.{ℕ, zero, suc, List, [], ◌∷◌, Option, Some, None, string_bytes}
use Rattle.wac_lexer.specs.Span.{Span}
use Rattle.wac_lexer.specs.declared.token.Token.{Token}
use Rattle.wac_lexer.specs.declared.error.Error.{Error as Fault}
use Rattle.wac_ast_base.specs.declared.error.Error.{Error}
use Rattle.wac_ast_base.specs.declared.error.Error.TheVariants as errors

pub data Told : Type 0 where
  -- an item is no token, or a character is rejected
  faulty : Fault → Span → Told
  -- another token, or the end, was found where one, one of two or one of several was expected
  expected_one : Token → Option Token → Span → Told
  expected_either : Token → Token → Option Token → Span → Told
  expected_many : List (Option Token) → ℕ → Option Token → Span → Told
  -- a type of this name has no such part
  empty_type : List ℕ → List ℕ → Span → Told
  invalid_version : List ℕ → Span → Told
  no_memory : Told

-- what an error reports
abbrev pub told_by : Error → Told
told_by (errors.Lexer fault span) = faulty fault span
told_by (errors.Expected token found span) = expected_one token found span
told_by (errors.ExpectedEither first second found span) = expected_either first second found span
told_by (errors.ExpectedMultiple tokens count found span) = expected_many tokens count found span
told_by (errors.EmptyType ty kind span) = empty_type ty.now kind.now span
told_by (errors.InvalidVersion version span) = invalid_version (string_bytes version) span
told_by (errors.Memory _) = no_memory

-- the first tokens, each in its place, and the places left empty
abbrev pub places : ℕ → List Token → List (Option Token)
places zero tokens = []
places (suc n) [] = None ∷ places n []
places (suc n) (token ∷ tokens) = Some token ∷ places n tokens

-- what is reported where the kept ones of so many tokens were tried, and another token, or the end, was found
abbrev pub expected : List Token → ℕ → Option Token → Span → Told
expected [] count found span = no_memory
expected (token ∷ []) count found span = expected_one token found span
expected (first ∷ second ∷ []) count found span = expected_either first second found span
expected tokens count found span = expected_many (places 10 tokens) count found span
