use Rattle.std.proofs.Common.{◌≡◌, ◌≤◌, ◌<◌, ◌*◌, ℕ, take}
use Rattle.wac_positions.specs.Places.{units, IsColumn}
use Rattle.wac_positions.proofs.lines.find_column.Given as goal

abbrev pub invariant-loop-at : goal.invariant-loop-at
invariant-loop-at l = record {
  counted : l.count ≡ units l.unit (take l.at l.line);
  small : l.count ≤ 2 * l.at;
  none : (k : ℕ) → k < l.at → ¬ (IsColumn l.line l.unit l.column k);
}
