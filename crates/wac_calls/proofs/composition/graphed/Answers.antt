use Rattle.std.proofs.Common.{inl, inr}
use Rattle.wac_calls.proofs.composition.graphed.Goals as goal

pub returns-in-Ok : goal.returns-in-Ok
returns-in-Ok c = inr ((c.in-Ok.frames.items, c.in-Ok.ensures), c.graphed_with.ensures)

pub returns-in-Err : goal.returns-in-Err
returns-in-Err c = inl c.bad_packages.ensures
