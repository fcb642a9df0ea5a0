use Rattle.std.proofs.Common.{inr}
use Rattle.wac_first_error.proofs.first.judge.Goals as goal

-- src/first.rt:39:1
pub returns-in-Ok-Rejected : goal.returns-in-Ok-Rejected
returns-in-Ok-Rejected c = inr (inr (rw c.in-Ok-Rejected.field-0-is at c.in-Ok-Rejected.ensures))
