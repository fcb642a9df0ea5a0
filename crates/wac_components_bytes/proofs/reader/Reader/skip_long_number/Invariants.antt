use Rattle.std.proofs.Common.{◌≡◌, ◌≤◌}
use Rattle.wac_components_bytes.proofs.reader.Reader.skip_long_number.Given as goal

abbrev pub invariant-loop : goal.invariant-loop
invariant-loop l = (l.self.bytes.now ≡ l.initial.self.bytes.now) × (l.self.work ≤ l.initial.self.work)
