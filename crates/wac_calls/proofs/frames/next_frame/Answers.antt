use Rattle.wac_calls.proofs.FirstFrames.{frame_of}
use Rattle.wac_calls.proofs.frames.next_frame.Goals as goal

pub returns-clause-is : goal.returns-clause-is
returns-clause-is c =
    frame_of c.args.buffer.now c.in_ok-head.head.now c.in_ok-head.rest.now c.number.result c.split_at_checked.result c.number.ensures c.in_ok-head.ensures.cases
    c.split_at_checked.ensures.cases
