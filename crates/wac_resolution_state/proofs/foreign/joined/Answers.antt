use Rattle.wac_resolution_state.proofs.Common.{arith, string_bytes}
use Rattle.wac_resolution_state.proofs.Joining.{joins_more, joins_short}
use Rattle.wac_resolution_state.proofs.foreign.joined.Goals as goal

pub returns-in-None : goal.returns-in-None
returns-in-None c = joins_short c.args.first.now c.args.rest c.loop.rest c.loop.counter c.args.count (string_bytes c.loop.text) c.in-None.ensures.steps.0 (omega arith) c.loop.invariant

pub loop-preserved : goal.loop-preserved
loop-preserved c =
    joins_more c.args.first.now c.args.rest c.loop.rest c.next.new.self c.loop.counter c.in-Some.segment.now _ (string_bytes c.loop.text) (string_bytes c.push_segment.new.text)
    c.in-Some.ensures.steps c.in_ok-push_segment-in-Some.ensures c.loop.invariant
