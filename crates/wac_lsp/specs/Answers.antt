-- What requests get.
use Rattle.std.specs.Prelude.{◌≡◌, ℕ, List, [], ◌∷◌, Bool, true, false, Option, Some, None, Result, Ok, Err, IfOk, IsOk, IsErrAnd, ⊤, string_bytes}
use Rattle.serde_json.specs.View.{view}
use Rattle.serde_json.specs.declared.value.Value.{Value}
use Rattle.wac_positions.specs.declared.place.ColumnUnit.{ColumnUnit}
use Rattle.wac_lsp_messages.specs.Replying.{IsRefusal, IsResult}
use Rattle.wac_lsp_messages.specs.declared.call.Call.{Call}
use Rattle.wac_lsp_messages.specs.declared.call.Call.TheVariants as calls
use Rattle.wac_lsp_messages.specs.declared.message.Message.{Message}
use Rattle.wac_lsp_messages.specs.declared.message.Message.TheVariants as messages
use Rattle.wac_lsp_messages.specs.declared.question.Question.{Question}
use Rattle.wac_lsp_messages.specs.declared.question.Question.TheVariants as questions
use Rattle.wac_lsp_messages.specs.declared.refusal.Code.{Code}
use Rattle.wac_lsp_messages.specs.declared.refusal.Code.TheVariants.{InvalidParams, InvalidRequest, NotInitialized, RequestFailed}
use Rattle.wac_lsp_messages.specs.declared.refusal.Refusal.{Refusal}
use Rattle.wac_lsp.specs.Formatting.{IsFormatting, IsPartFormatting}
use Rattle.wac_lsp.specs.Opened.{document_in, is_lost}
use Rattle.wac_lsp.specs.declared.documents.Document.{Document}
use Rattle.wac_lsp.specs.declared.server.Phase.{Phase}
use Rattle.wac_lsp.specs.declared.server.Phase.TheVariants as phases
use Rattle.wac_lsp.specs.declared.server.Sent.{Sent}
use Rattle.wac_lsp.specs.declared.server.Sent.TheVariants as sent
use Rattle.wac_lsp.specs.declared.server.Server.{Server}

-- what a request gets: a value, or why it is refused
abbrev pub Answer : Type 0
Answer = Result Value Refusal

-- it is refused with this code
abbrev pub IsRefused : Code → Answer → Type 0
IsRefused code answer = IsErrAnd answer (λ why. why.code ≡ code)

-- What a question gets about an open document of this text. Only edits are refused: those that fail a test, and those of
-- a name that can't be given.
abbrev pub AnswersQuestion : ColumnUnit → List ℕ → Question → Answer → Type 0
AnswersQuestion unit text (questions.Formatting given) answer = IfOk answer (IsFormatting unit given text)
AnswersQuestion unit text (questions.RangeFormatting range given) answer =
    IfOk answer (IsPartFormatting unit given text)
AnswersQuestion unit text (questions.Rename place new) answer = ⊤
AnswersQuestion unit text _ answer = IsOk answer

-- what a question gets about an open document of this text, of which a change may be lost
abbrev pub AnswersOpen : Bool → ColumnUnit → List ℕ → Question → Answer → Type 0
AnswersOpen true unit text question answer = IsRefused RequestFailed answer
AnswersOpen false unit text question answer = AnswersQuestion unit text question answer

-- what a question gets about a document, if it is open
abbrev pub AnswersAbout : ColumnUnit → Option Document → Question → Answer → Type 0
AnswersAbout unit None question answer = IsRefused InvalidParams answer
AnswersAbout unit (Some document) question answer =
    AnswersOpen (is_lost document) unit (string_bytes document.text) question answer

-- what a call gets before initialize
abbrev pub AnswersFirst : Call → Answer → Type 0
AnswersFirst (calls.Initialize (Some client)) answer = IsOk answer
AnswersFirst (calls.Initialize None) answer = IsRefused InvalidParams answer
AnswersFirst _ answer = IsRefused NotInitialized answer

-- what a call gets between initialize and shutdown, while these documents are open
abbrev pub AnswersCall : ColumnUnit → List Document → Call → Answer → Type 0
AnswersCall unit documents (calls.Document uri question) answer =
    AnswersAbout unit (document_in (string_bytes uri) documents) question answer
AnswersCall unit documents (calls.Initialize client) answer = IsRefused InvalidRequest answer
AnswersCall unit documents _ answer = IsOk answer

-- what a request gets: the code of one that can't be read is told while the server runs
abbrev pub AnswersRequest : Phase → ColumnUnit → List Document → Result Call Refusal → Answer → Type 0
AnswersRequest phases.New unit documents (Ok call) answer = AnswersFirst call answer
AnswersRequest phases.New unit documents (Err why) answer = IsRefused NotInitialized answer
AnswersRequest phases.Running unit documents (Ok call) answer = AnswersCall unit documents call answer
AnswersRequest phases.Running unit documents (Err why) answer = IsRefused why.code answer
AnswersRequest phases.ShutDown unit documents request answer = IsRefused InvalidRequest answer

-- the text of a reply has an answer
abbrev pub Tells : Answer → List ℕ → Type 0
Tells (Ok value) body = IsResult (view value) body
Tells (Err why) body = IsRefusal why.code body

-- the text of a reply has what a request gets
pub record RepliesTo (phase : Phase) (unit : ColumnUnit) (documents : List Document)
    (request : Result Call Refusal) (body : List ℕ) : Type 0 where
  pub answer : Answer
  pub answers : AnswersRequest phase unit documents request answer
  pub tells : Tells answer body

-- each reply among messages is such a text
abbrev pub EachReply : (List ℕ → Type 0) → List Sent → Type 0
EachReply P [] = ⊤
EachReply P (sent.Reply id body ∷ more) = P (string_bytes body) × EachReply P more
EachReply P (sent.Notification body ∷ more) = EachReply P more

-- what is replied to a message: what is no message gets the code that says so
abbrev pub AnswersMessage : Phase → ColumnUnit → List Document → Message → List Sent → Type 0
AnswersMessage phase unit documents (messages.Request id request) sent =
    EachReply (RepliesTo phase unit documents request) sent
AnswersMessage phase unit documents (messages.Wrong why) sent = EachReply (IsRefusal why.code) sent
AnswersMessage phase unit documents _ sent = ⊤

-- what a server replies to a message
abbrev pub ServerAnswers : Server → Message → List Sent → Type 0
ServerAnswers server message sent = AnswersMessage server.phase server.unit server.documents.items message sent
