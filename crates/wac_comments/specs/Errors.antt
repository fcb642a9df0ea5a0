-- What an error says of the source.
use Rattle.std.specs.Prelude.{◌≡◌, ℕ, Bool, true, false, List, Some}
use Rattle.wac_ast.specs.Document.{ErrorOf}
use Rattle.wac_ast_base.specs.Error.{told_by}
use Rattle.wac_ast_base.specs.declared.error.Error.{Error}
use Rattle.wac_ast_base.specs.declared.error.Error.TheVariants as errors
use Rattle.wac_comments_layout.specs.Nesting.{too_deep}
use Rattle.wac_comments.specs.declared.error.TidyError.{TidyError}
use Rattle.wac_comments.specs.declared.error.TidyError.TheVariants.{Parse, NestedTooDeep, NotKept, Memory}

-- whether memory ran out
abbrev pub is_memory : Error → Bool
is_memory (errors.Memory error) = true
is_memory error = false

-- A parse error is that of the source, and brackets are nested too deep at their place. That comments were not kept, and that memory ran out, say
-- nothing of the source.
abbrev pub IsErrorOf : List ℕ → TidyError → Type 0
IsErrorOf source (Parse error) = ErrorOf (told_by error) source
IsErrorOf source (NestedTooDeep span) = too_deep source ≡ Some span
IsErrorOf source NotKept = Unit {0}
IsErrorOf source (Memory error) = Unit {0}
