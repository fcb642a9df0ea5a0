-- Messages by what was found in their JSON.
use Rattle.std.proofs.Common.{◌≡◌, sym, subst, ℕ, List, false, Some, None, Ok, Err, inl, inr}
use Rattle.std.specs.Prelude.{Result, IfOk, IfSome, IsUtf8, codes}
use Rattle.serde_json.specs.Data.{Data}
use Rattle.serde_json.specs.Find.{get}
use Rattle.serde_json.specs.Read.{read}
use Rattle.wac_lsp_messages.specs.declared.call.Call.{Call}
use Rattle.wac_lsp_messages.specs.declared.id.Id.{Id}
use Rattle.wac_lsp_messages.specs.declared.message.Message.{Message}
use Rattle.wac_lsp_messages.specs.declared.message.Message.TheVariants as messages
use Rattle.wac_lsp_messages.specs.declared.notice.Notice.{Notice}
use Rattle.wac_lsp_messages.specs.declared.refusal.Refusal.{Refusal}
use Rattle.wac_lsp_messages.specs.Meaning.{IsAskedBy, IsIdOf, IsMessageIn, IsMessageOf, IsNoId, IsNoMessage, has_outcome, params_of}
use Rattle.wac_lsp_messages.specs.declared.refusal.Code.TheVariants.{InvalidRequest}
use Rattle.wac_lsp_messages.specs.Calls.{IsCallOf}
use Rattle.wac_lsp_messages.specs.Notices.{IsNoticeOf}
use Rattle.wac_lsp_messages.specs.Reading.{text_in}

-- a request with an id
pub request_with : (message params given : Data) (id : Id) (method : List ℕ) (call : Result Call Refusal) → Some given ≡ get (codes "id") message → IsIdOf given id → text_in (codes "method") message ≡ Some method
    → params ≡ params_of message → IsCallOf method params call → IsMessageOf message (messages.Request id call)
request_with message params given id method call found is_id has is asked =
    ((given, sym found, is_id), subst (λ it. IsAskedBy it message call) (sym has) (subst (λ it. IsCallOf method it call) is asked))

-- one without a method
pub request_without : (message given : Data) (id : Id) (why : Refusal) → Some given ≡ get (codes "id") message → IsIdOf given id → text_in (codes "method") message ≡ None → has_outcome message ≡ false → why.code ≡ InvalidRequest
    → IsMessageOf message (messages.Request id (Err why))
request_without message given id why found is_id has_none no_reply is =
    ((given, sym found, is_id), subst (λ it. IsAskedBy it message (Err why)) (sym has_none) (no_reply, is))

-- a notification
pub notification_with : (message params : Data) (method : List ℕ) (notice : Notice) → None ≡ get (codes "id") message → text_in (codes "method") message ≡ Some method → params ≡ params_of message → IsNoticeOf method params notice
    → IsMessageOf message (messages.Notification notice)
notification_with message params method notice none has given told = (sym none, (method, has, subst (λ it. IsNoticeOf method it notice) given told))

-- no message, since what should be its id is none
pub wrong_with : (message given : Data) (method : List ℕ) (why : Refusal) → Some given ≡ get (codes "id") message → IsNoId given → text_in (codes "method") message ≡ Some method → why.code ≡ InvalidRequest → IsMessageOf message (messages.Wrong why)
wrong_with message given method why found no_id has is =
    (subst (λ it. IsNoMessage it message) (sym has) (given, sym found, no_id), is)

-- the same without a method
pub wrong_without_method : (message given : Data) (why : Refusal) → Some given ≡ get (codes "id") message → IsNoId given → text_in (codes "method") message ≡ None → has_outcome message ≡ false → why.code ≡ InvalidRequest
    → IsMessageOf message (messages.Wrong why)
wrong_without_method message given why found no_id has_none no_reply is =
    (subst (λ it. IsNoMessage it message) (sym has_none) (no_reply, inr (given, sym found, no_id)), is)

-- no message, without a method and an id
pub wrong_without_id : (message : Data) (why : Refusal) → None ≡ get (codes "id") message → text_in (codes "method") message ≡ None → has_outcome message ≡ false → why.code ≡ InvalidRequest → IsMessageOf message (messages.Wrong why)
wrong_without_id message why none has_none no_reply is =
    (subst (λ it. IsNoMessage it message) (sym has_none) (no_reply, inl (sym none)), is)

-- the message of a JSON text is that of its body
pub message_in : {E : Type 0} (body : List ℕ) (given : Data) (message : Result Message E) → (IsUtf8 body → Some given ≡ read body) → IfOk message (λ it. IsMessageOf given it) → IfOk message (λ it. IsMessageIn body it)
message_in body given (Ok message) is meant = λ utf8. subst (λ found. IfSome found (λ it. IsMessageOf it message)) (is utf8) meant
message_in body given (Err error) is meant = tt

-- of what is no JSON text nothing is said
pub no_json : {E : Type 0} (body : List ℕ) (message : Result Message E) → (IsUtf8 body → None ≡ read body) → IfOk message (λ it. IsMessageIn body it)
no_json body (Ok message) none = λ utf8. subst (λ found. IfSome found (λ it. IsMessageOf it message)) (none utf8) tt
no_json body (Err error) none = tt
