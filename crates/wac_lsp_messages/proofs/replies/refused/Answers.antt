use Rattle.std.proofs.lemmas.Result.{IfOk-weaker}
use Rattle.serde_json.specs.View.{view}
use Rattle.wac_lsp_messages.proofs.replies.refused.Goals as goal

pub returns-clause-id : goal.returns-clause-id
returns-clause-id c =
    IfOk-weaker c.to_string.result _ _ (λ text back. record { message = view c.in_ok-message.message; names = c.in_ok-message.ensures.id; reads_back = back }) c.to_string.ensures.reads_back

pub returns-clause-error : goal.returns-clause-error
returns-clause-error c =
    IfOk-weaker c.to_string.result _ _ (λ text back. record { message = view c.in_ok-message.message; error = view c.in_ok-error.error; has = c.in_ok-message.ensures.has; coded = c.in_ok-error.ensures; no_result = c.in_ok-message.ensures.no_result; reads_back = back }) c.to_string.ensures.reads_back
