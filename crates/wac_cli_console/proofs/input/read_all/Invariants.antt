use Rattle.std.proofs.Common.{◌≤◌, length}
use Rattle.wac_cli_console.proofs.input.read_all.Given as goal

abbrev pub invariant-loop : goal.invariant-loop
invariant-loop g l = length l.bytes.items ≤ l.fn.most
