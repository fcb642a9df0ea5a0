use Rattle.wac_calls.proofs.composition.graphed_over.Goals as goal

pub returns-in-Err : goal.returns-in-Err
returns-in-Err c = c.ungraphed.ensures c.args.source.now c.in-Err.ensures.error
