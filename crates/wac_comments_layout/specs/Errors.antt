-- Why the pieces of a text were not read.
use Rattle.std.specs.Prelude.{◌≡◌, ℕ, List, MatchOption, alloc_error}
use Rattle.wac_lexer.specs.Characters.{refused}
use Rattle.wac_comments_layout.specs.declared.pieces.ReadError.{ReadError}
use Rattle.wac_comments_layout.specs.declared.pieces.ReadError.TheVariants.{Refused, Memory}

-- An error is that of the first refused character of a text. Where none is refused, memory ran out.
abbrev pub IsReadErrorOf : List ℕ → ReadError → Type 0
IsReadErrorOf text error = MatchOption (refused text) (error ≡ Memory alloc_error) (λ fault. error ≡ Refused fault.0 fault.1)
