-- The numbers by which callers in other languages name words and statuses.
use Rattle.std.specs.Prelude.{ℕ}
use Rattle.wac_tool.specs.declared.command.Command.TheVariants.{Tokens, Fmt, Json, Resolve, Packages, Check}
use Rattle.wac_calls.specs.declared.answer.Status.{Status}
use Rattle.wac_calls.specs.declared.answer.Status.TheVariants.{Well, Rejected, Unknown, NotUtf8, OutOfMemory, NestedTooDeep, BadPackage}
use Rattle.wac_calls.specs.declared.word.Word.{Word}
use Rattle.wac_calls.specs.declared.word.Word.TheVariants.{Wac, Tidy, Errors}

abbrev pub word_number : Word → ℕ
word_number (Wac Tokens) = 0
word_number (Wac Fmt) = 1
word_number (Wac Json) = 2
word_number (Wac Resolve) = 3
word_number (Wac Packages) = 4
word_number (Wac Check) = 5
word_number Tidy = 6
word_number Errors = 7

abbrev pub status_number : Status → ℕ
status_number Well = 0
status_number Rejected = 1
status_number Unknown = 2
status_number NotUtf8 = 3
status_number OutOfMemory = 4
status_number NestedTooDeep = 5
status_number BadPackage = 6
