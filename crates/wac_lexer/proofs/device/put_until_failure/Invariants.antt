use Rattle.wac_lexer.proofs.Common.{length, take, ◌-◌, ◌≡◌, ◌++◌, ◌≤◌}
use Rattle.wac_lexer.proofs.device.put_until_failure.Given as goal

abbrev pub invariant-put : goal.invariant-put
invariant-put g l = record {
  taken : g.S.Sink.bytes l.sink ≡ g.S.Sink.bytes l.fn.sink ++ take l.at l.part;
  count : l.at ≤ length l.part;
  failures : g.S.Sink.failures l.sink ≡ g.S.Sink.failures l.fn.sink;
  borrow : g.S.Sink.borrow l.sink ≡ g.S.Sink.borrow l.fn.sink;
}

abbrev pub decreases-put : goal.decreases-put
decreases-put g l = length l.part - l.at
