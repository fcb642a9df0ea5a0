use Rattle.std.proofs.Common.{ℕ, ◌≤◌, ◌<◌, length}
use Rattle.wac_calls.specs.Room.{AreWhole}
use Rattle.wac_calls.proofs.room.fitting.Given as goal

abbrev pub invariant-back : goal.invariant-back
invariant-back l = record {
  within : l.end ≤ l.fn.room;
  short : l.fn.room < length l.text;
  most : (more : ℕ) → more ≤ l.fn.room → more ≤ length l.text → AreWhole l.text more → more ≤ l.end;
}

abbrev pub decreases-back : goal.decreases-back
decreases-back l = l.end
