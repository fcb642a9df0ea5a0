use Rattle.std.proofs.Common.{◌≡◌, ◌≤◌}
use Rattle.wac_components_bytes.specs.Reading.{unread}
use Rattle.wac_components_bytes.proofs.Groups.{Fronts}
use Rattle.wac_components_bytes.proofs.reader.Reader.groups.Given as goal

abbrev pub invariant-loop-place : goal.invariant-loop-place
invariant-loop-place l = record {
  bytes : l.self.bytes.now ≡ l.initial.self.bytes.now;
  work : l.self.work ≤ l.initial.self.work;
  fronts : Fronts l.place l.value (unread l.initial.self) (unread l.self);
}
