-- What replies are.
use Rattle.std.specs.Prelude.{◌≡◌, ◌≤◌, ℕ, ℤ, pos, neg_ℤ, List, Option, Some, None, codes, string_bytes}
use Rattle.serde_json.specs.Data.{Data, null, number, string, depth}
use Rattle.serde_json.specs.Find.{get, of_integer}
use Rattle.serde_json.specs.Read.{read, max_depth}
use Rattle.wac_lsp_messages.specs.declared.refusal.Code.{Code}
use Rattle.wac_lsp_messages.specs.declared.refusal.Code.TheVariants as refusals
use Rattle.wac_lsp_messages.specs.declared.id.Id.{Id}
use Rattle.wac_lsp_messages.specs.declared.id.Id.TheVariants as ids

-- an id in JSON
abbrev pub id_data : Id → Data
id_data (ids.Number n) = number (of_integer n)
id_data (ids.Text text) = string (string_bytes text)

-- the id of a reply in JSON: null where there is none
abbrev pub reply_id : Option Id → Data
reply_id None = null
reply_id (Some id) = id_data id

-- The text is a reply with this id: it reads back as an object that has it, unless that is nested too deep to be read.
pub record IsReplyTo (id : Option Id) (text : List ℕ) : Type 0 where
  pub message : Data
  pub names : get (codes "id") message ≡ Some (reply_id id)
  pub reads_back : depth message ≤ max_depth → read text ≡ Some message

-- The text is a reply with this result, and with no error, in the same way.
pub record IsResult (result : Data) (text : List ℕ) : Type 0 where
  pub message : Data
  pub has : get (codes "result") message ≡ Some result
  pub no_error : get (codes "error") message ≡ None
  pub reads_back : depth message ≤ max_depth → read text ≡ Some message

-- the number of a code: those of JSON-RPC, and two of the protocol of language servers
abbrev pub number_of : Code → ℤ
number_of refusals.ParseError = neg_ℤ (pos 32700)
number_of refusals.InvalidRequest = neg_ℤ (pos 32600)
number_of refusals.MethodNotFound = neg_ℤ (pos 32601)
number_of refusals.InvalidParams = neg_ℤ (pos 32602)
number_of refusals.InternalError = neg_ℤ (pos 32603)
number_of refusals.NotInitialized = neg_ℤ (pos 32002)
number_of refusals.RequestFailed = neg_ℤ (pos 32803)

-- an error has this code
abbrev pub HasCode : Code → Data → Type 0
HasCode code error = get (codes "code") error ≡ Some (number (of_integer (number_of code)))

-- The text is a reply with an error of this code, and with no result, in the same way.
pub record IsRefusal (code : Code) (text : List ℕ) : Type 0 where
  pub message : Data
  pub error : Data
  pub has : get (codes "error") message ≡ Some error
  pub coded : HasCode code error
  pub no_result : get (codes "result") message ≡ None
  pub reads_back : depth message ≤ max_depth → read text ≡ Some message
