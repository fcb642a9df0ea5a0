-- Names that a text has.
use Rattle.std.specs.Prelude.{◌≡◌, ℕ, List, None}
use Rattle.wac_lexer.specs.Reading.{Slices, slice}
use Rattle.wac_lexer.specs.declared.token.Token.TheVariants as t
use Rattle.wac_completion.specs.Standing.{Reads}
use Rattle.wac_completion.specs.declared.names.Candidate.{Candidate}

-- A text has a name where it is said to be bound: an identifier, and nothing else.
abbrev pub IsWritten : List ℕ → Candidate → Type 0
IsWritten text name = Slices text name.span × Reads (slice text name.span) 0 t.Ident None
