use Rattle.wac_resolution_state.proofs.Common.{string_bytes}
use Rattle.wac_resolution_state.proofs.Joining.{Joins}
use Rattle.wac_resolution_state.proofs.foreign.joined.Given as goal

abbrev pub invariant-loop : goal.invariant-loop
invariant-loop l = Joins l.first l.fn.rest l.rest l.counter (string_bytes l.text)
