use Rattle.wac_tool_graphs.proofs.Common.{sym}
use Rattle.wac_tool_graphs.proofs.comparing.same.Goals as goal

pub returns-in-Ok : goal.returns-in-Ok
returns-in-Ok c = rw (sym c.entries.ensures) c.in-Ok.ensures
