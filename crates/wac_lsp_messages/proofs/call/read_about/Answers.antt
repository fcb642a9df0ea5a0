use Rattle.serde_json.specs.View.{view}
use Rattle.wac_lsp_messages.proofs.Refusing.{question_of_nothing}
use Rattle.wac_lsp_messages.proofs.call.read_about.Goals as goal

pub returns-in-None : goal.returns-in-None
returns-in-None c =
    question_of_nothing c.args.method.now (view c.args.params.now) c.in_ok-question.field-0 c.in-Ok.question c.in-Ok.is c.in_ok-question.ensures (rw c.in-None.is at c.in_ok-uri.ensures)
