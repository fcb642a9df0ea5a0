use Rattle.wac_resolution.proofs.steps.composed.Goals as goal

pub compose_in-requires : goal.compose_in-requires
compose_in-requires g c = c.new-graph.ensures

pub returns-in-Ok-clause-ok : goal.returns-in-Ok-clause-ok
returns-in-Ok-clause-ok g c = c.in-Ok.ensures.ok

pub returns-in-Err-clause-err : goal.returns-in-Err-clause-err
returns-in-Err-clause-err g c = c.in-Err.ensures.err
