-- What is said of an error of parsing, and of one of resolving.
use Rattle.std.specs.Prelude.{Option, Some, None}
use Rattle.wac_lexer.specs.Span.{Span}
use Rattle.wac_ast_base.specs.Error.{Told as Parsing, faulty, expected_one, expected_either, expected_many, empty_type, invalid_version, no_memory}
use Rattle.wac_ast_base.specs.Messages.{message_of}
use Rattle.wac_resolution_errors.specs.Error.{Error}
use Rattle.wac_resolution_errors.specs.Messages.{text_of}
use Rattle.wac_resolution_errors.specs.Places.{span_of}
use Rattle.wac_diagnostics.specs.Reports.{Says}
use Rattle.wac_diagnostics.specs.declared.diagnostic.Diagnostic.{Diagnostic}
use Rattle.wac_first_error.specs.Codes.{parse_code, resolution_code}

-- where an error of parsing lies: nowhere where memory ran out
abbrev pub place_of : Parsing → Option Span
place_of (faulty fault span) = Some span
place_of (expected_one token found span) = Some span
place_of (expected_either first second found span) = Some span
place_of (expected_many tokens count found span) = Some span
place_of (empty_type ty kind span) = Some span
place_of (invalid_version version span) = Some span
place_of no_memory = None

-- the diagnostic is that of the error: its code, its text and its place
abbrev pub IsOfParsing : Parsing → Diagnostic → Type 0
IsOfParsing e d = Says (parse_code e) (message_of e) (place_of e) d

abbrev pub IsOfResolving : Error → Diagnostic → Type 0
IsOfResolving e d = Says (resolution_code e) (text_of e) (span_of e) d
