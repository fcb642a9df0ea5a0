use Rattle.wac_calls.proofs.composition.graph.Goals as goal

pub returns : goal.returns
returns c = record {
  outcome = c.outcome_of-outcome.result;
  comes = c.outcome_of-outcome.ensures;
  ends = c.tell.ensures.ends;
  text = c.tell.ensures.text;
  message = c.tell.ensures.message;
}
