use Rattle.wac_resolution_state.proofs.Expanding.{grows_expands, supplied_grown, supplied_kept}
use Rattle.wac_resolution_state.proofs.laws.growing_expands.Goals as goal

pub returns-clause-expands : goal.returns-clause-expands
returns-clause-expands c = grows_expands

pub returns-clause-supplied : goal.returns-clause-supplied
returns-clause-supplied c = supplied_grown

pub returns-clause-kept : goal.returns-clause-kept
returns-clause-kept c = supplied_kept
