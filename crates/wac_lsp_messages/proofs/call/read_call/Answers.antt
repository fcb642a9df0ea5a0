use Rattle.serde_json.specs.View.{view}
use Rattle.wac_lsp_messages.proofs.Refusing.{request_of_document}
use Rattle.wac_lsp_messages.proofs.call.read_call.Goals as goal

pub returns-in_default : goal.returns-in_default
returns-in_default c =
    request_of_document c.args.method.now (view c.args.params.now) c.read_about.result
    (record {
      no_initialize = c.in_default.not-initialize;
      no_shutdown = c.in_default.not-shutdown;
      no_workspace_symbols = c.in_default.not-text;
    })
    c.read_about.ensures
