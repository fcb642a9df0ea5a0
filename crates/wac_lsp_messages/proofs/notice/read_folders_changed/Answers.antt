use Rattle.serde_json.specs.View.{view}
use Rattle.wac_lsp_messages.proofs.Telling.{folders_none_added, folders_none_removed}
use Rattle.wac_lsp_messages.proofs.notice.read_folders_changed.Goals as goal

pub returns-in_default : goal.returns-in_default
returns-in_default c = folders_none_added (view c.args.params.now) (rw c.in_default.is at c.in_ok-added.ensures)

pub returns-in-None : goal.returns-in-None
returns-in-None c = folders_none_removed (view c.args.params.now) (rw c.in-None.is at c.in_ok-removed.ensures)
