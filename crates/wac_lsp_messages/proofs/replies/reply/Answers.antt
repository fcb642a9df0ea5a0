use Rattle.std.proofs.lemmas.Result.{IfOk-weaker}
use Rattle.serde_json.specs.View.{view}
use Rattle.wac_lsp_messages.proofs.replies.reply.Goals as goal

pub returns-clause-id : goal.returns-clause-id
returns-clause-id c =
    IfOk-weaker c.to_string.result _ _ (λ text back. record { message = view c.in_ok-message.message; names = c.in_ok-message.ensures.id; reads_back = back }) c.to_string.ensures.reads_back

pub returns-clause-result : goal.returns-clause-result
returns-clause-result c =
    IfOk-weaker c.to_string.result _ _ (λ text back. record { message = view c.in_ok-message.message; has = c.in_ok-message.ensures.has; no_error = c.in_ok-message.ensures.no_error; reads_back = back }) c.to_string.ensures.reads_back
