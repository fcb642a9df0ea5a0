use Rattle.std.proofs.Common.{◌≡◌, ◌≤◌, ◌*◌, take}
use Rattle.wac_positions.specs.Places.{units}
use Rattle.wac_positions.proofs.lines.units.Given as goal

abbrev pub invariant-loop-byte : goal.invariant-loop-byte
invariant-loop-byte l = record { counted : l.count ≡ units l.unit (take l.byte-index l.bytes); small : l.count ≤ 2 * l.byte-index }
