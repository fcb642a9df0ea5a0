-- What a diagnostic says, apart from where its texts lie in memory.
use Rattle.std.specs.Prelude.{◌≡◌, ℕ, List, [], Option, None, string_bytes}
use Rattle.wac_lexer.specs.Span.{Span}
use Rattle.wac_diagnostics.specs.declared.diagnostic.Diagnostic.{Diagnostic}
use Rattle.wac_diagnostics.specs.declared.diagnostic.Severity.TheVariants.{Error}

-- it is an error with this code, this message and this place
pub record Says (code message : List ℕ) (at : Option Span) (d : Diagnostic) : Type 0 where
  pub is_error : d.severity ≡ Error
  pub has_code : d.code.now ≡ code
  pub has_message : string_bytes d.message ≡ message
  pub has_place : d.span ≡ at

-- it has neither help nor notes
pub record IsBare (d : Diagnostic) : Type 0 where
  pub no_help : d.help ≡ None
  pub no_notes : d.notes.items ≡ []
