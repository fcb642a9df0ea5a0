use Rattle.wac_calls.proofs.GraphFaults.{graph_without}
use Rattle.wac_calls.proofs.composition.graphed_with.Goals as goal

pub returns-in-Err : goal.returns-in-Err
returns-in-Err c = graph_without c.args.source.now c.undecoded.result c.undecoded.ensures
