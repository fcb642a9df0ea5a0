-- What a caller is told, and what is then in the room that it brought.
use Rattle.std.specs.Prelude.{◌≡◌, ℕ, List, [], Option, Some, None, codes, string_bytes}
use Rattle.wac_lexer.specs.Span.{Span}
use Rattle.wac_calls.specs.Room.{IsPut}
use Rattle.wac_calls.specs.declared.answer.Answer.{Answer}
use Rattle.wac_calls.specs.declared.answer.Status.{Status}
use Rattle.wac_calls.specs.declared.answer.Status.TheVariants as statuses
use Rattle.wac_calls.specs.declared.outcome.Outcome.{Outcome}
use Rattle.wac_calls.specs.declared.outcome.Outcome.TheVariants.{Written, Rejected, NotUtf8, OutOfMemory, NestedTooDeep, BadPackage}

abbrev pub status_of : Outcome → Status
status_of (Written text) = statuses.Well
status_of (Rejected place message) = statuses.Rejected
status_of NotUtf8 = statuses.NotUtf8
status_of OutOfMemory = statuses.OutOfMemory
status_of (NestedTooDeep at) = statuses.NestedTooDeep
status_of (BadPackage at message) = statuses.BadPackage

-- the place that is at fault
abbrev pub place_of : Outcome → Option Span
place_of (Written text) = None
place_of (Rejected place message) = place
place_of NotUtf8 = None
place_of OutOfMemory = None
place_of (NestedTooDeep at) = Some at
place_of (BadPackage at message) = Some at

-- what is written
abbrev pub text_of : Outcome → List ℕ
text_of (Written text) = text.items
text_of (Rejected place message) = []
text_of NotUtf8 = []
text_of OutOfMemory = []
text_of (NestedTooDeep at) = []
text_of (BadPackage at message) = []

-- what is said where nothing is written
abbrev pub message_of : Outcome → List ℕ
message_of (Written text) = []
message_of (Rejected place message) = string_bytes message
message_of NotUtf8 = codes "input is not UTF-8"
message_of OutOfMemory = codes "out of memory"
message_of (NestedTooDeep at) = codes "brackets are nested deeper than the limit"
message_of (BadPackage at message) = string_bytes message

-- the answer ends as the outcome does, with its place
abbrev pub Ends : Outcome → Answer → Type 0
Ends outcome answer = (answer.status ≡ status_of outcome) × (answer.place ≡ place_of outcome)

-- the room for what is written has as much of that as fits, and the answer says how much, and how much there is
abbrev pub PutsText : Outcome → Answer → List ℕ → List ℕ → Type 0
PutsText outcome answer old new = IsPut (text_of outcome) answer.written answer.needed old new

-- the same of the message
abbrev pub PutsMessage : Outcome → Answer → List ℕ → List ℕ → Type 0
PutsMessage outcome answer old new = IsPut (message_of outcome) answer.message_written answer.message_needed old new
