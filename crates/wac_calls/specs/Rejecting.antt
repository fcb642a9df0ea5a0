-- What a word comes to that rejects a text for an error of parsing.
use Rattle.std.specs.Prelude.{◌≡◌, ◌≢◌, ℕ, List, Option, string_bytes}
use Rattle.wac_lexer.specs.Span.{Span}
use Rattle.wac_ast.specs.Document.{ErrorOf}
use Rattle.wac_ast_base.specs.Error.{Told, no_memory}
use Rattle.wac_ast_base.specs.Messages.{message_of}
use Rattle.wac_first_error.specs.Diagnostics.{place_of}
use Rattle.wac_calls.specs.declared.outcome.Outcome.{Outcome}
use Rattle.wac_calls.specs.declared.outcome.Outcome.TheVariants.{Written, Rejected, NotUtf8, OutOfMemory, NestedTooDeep, BadPackage}

-- the text is rejected with the place and the message of the error, unless memory ran out
abbrev pub IsOfError : Told → Outcome → Type 0
IsOfError e (Rejected place message) = (place ≡ place_of e) × (string_bytes message ≡ message_of e) × (e ≢ no_memory)
IsOfError e OutOfMemory = Unit {0}
IsOfError e outcome = ⊥

-- this is the place and the message of the error of parsing that the source has
abbrev pub IsFaultOf : List ℕ → Option Span → List ℕ → Type 0
IsFaultOf source place message = (e : Told) × ErrorOf e source × (place ≡ place_of e) × (message ≡ message_of e)
