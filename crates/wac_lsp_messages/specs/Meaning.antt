-- Which messages there are, by their JSON.
use Rattle.std.specs.Prelude.{◌≡◌, ◌⊎◌, ◌||◌, ℕ, Bool, true, false, List, codes, Option, Some, None, Result, Ok, Err, IfSome, IsUtf8, is_some, option_and_then, string_bytes, unwrap_or}
use Rattle.serde_json.specs.Data.{Data, null}
use Rattle.serde_json.specs.Find.{as_i64, as_number, as_str, get}
use Rattle.serde_json.specs.Read.{read}
use Rattle.wac_lsp_messages.specs.declared.call.Call.{Call}
use Rattle.wac_lsp_messages.specs.declared.id.Id.{Id}
use Rattle.wac_lsp_messages.specs.declared.id.Id.TheVariants as ids
use Rattle.wac_lsp_messages.specs.declared.message.Message.{Message}
use Rattle.wac_lsp_messages.specs.declared.message.Message.TheVariants as messages
use Rattle.wac_lsp_messages.specs.declared.refusal.Code.TheVariants.{InvalidRequest}
use Rattle.wac_lsp_messages.specs.declared.refusal.Refusal.{Refusal}
use Rattle.wac_lsp_messages.specs.Calls.{IsCallOf}
use Rattle.wac_lsp_messages.specs.Notices.{IsNoticeOf}
use Rattle.wac_lsp_messages.specs.Reading.{text_in}

-- the id that a value is: an integer of 64 bits, or a text
abbrev pub IsIdOf : Data → Id → Type 0
IsIdOf given (ids.Number n) = option_and_then as_i64 (as_number given) ≡ Some n
IsIdOf given (ids.Text text) = as_str given ≡ Some (string_bytes text)

-- the value is no id
pub record IsNoId (given : Data) : Type 0 where
  pub no_number : option_and_then as_i64 (as_number given) ≡ None
  pub no_text : as_str given ≡ None

-- the message has an id: this one
abbrev pub HasId : Data → Id → Type 0
HasId message id = (given : Data) × (get (codes "id") message ≡ Some given) × IsIdOf given id

-- what should be the id of the message is none
abbrev pub HasWrongId : Data → Type 0
HasWrongId message = (given : Data) × (get (codes "id") message ≡ Some given) × IsNoId given

-- the message says what became of a request
abbrev pub has_outcome : Data → Bool
has_outcome message = is_some (get (codes "result") message) || is_some (get (codes "error") message)

-- the parameters of a message: null where it has none
abbrev pub params_of : Data → Data
params_of message = unwrap_or (get (codes "params") message) null

-- what a request asks for, by its method; one without a method, which is no reply, is refused as no message
abbrev pub IsAskedBy : Option (List ℕ) → Data → Result Call Refusal → Type 0
IsAskedBy (Some method) message call = IsCallOf method (params_of message) call
IsAskedBy None message (Ok call) = ⊥
IsAskedBy None message (Err why) = (has_outcome message ≡ false) × (why.code ≡ InvalidRequest)

-- no message, by its method: with one its id is none; without one it is no reply, and has no id or one that is none
abbrev pub IsNoMessage : Option (List ℕ) → Data → Type 0
IsNoMessage (Some method) message = HasWrongId message
IsNoMessage None message = (has_outcome message ≡ false) × ((get (codes "id") message ≡ None) ⊎ HasWrongId message)

-- What has a method is a request with its id, or a notification without one; what has none is a reply where it has a
-- result or an error, and else a request that is refused, with its id; all else is no message.
abbrev pub IsMessageOf : Data → Message → Type 0
IsMessageOf message (messages.Request id call) =
    HasId message id × IsAskedBy (text_in (codes "method") message) message call
IsMessageOf message (messages.Notification notice) =
    (get (codes "id") message ≡ None)
    × ((method : List ℕ) × (text_in (codes "method") message ≡ Some method)
    × IsNoticeOf method (params_of message) notice)
IsMessageOf message messages.Reply = (text_in (codes "method") message ≡ None) × (has_outcome message ≡ true)
IsMessageOf message (messages.Wrong why) =
    IsNoMessage (text_in (codes "method") message) message × (why.code ≡ InvalidRequest)

-- the message that the body of a message is, where that is a JSON text
abbrev pub IsMessageIn : List ℕ → Message → Type 0
IsMessageIn body message = IsUtf8 body → IfSome (read body) (λ given. IsMessageOf given message)
