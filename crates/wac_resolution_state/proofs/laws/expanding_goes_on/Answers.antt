use Rattle.wac_resolution_state.proofs.Expanding.{expands_self, expands_on}
use Rattle.wac_resolution_state.proofs.laws.expanding_goes_on.Goals as goal

pub returns-clause-nothing : goal.returns-clause-nothing
returns-clause-nothing c = expands_self

pub returns-clause-twice : goal.returns-clause-twice
returns-clause-twice c = expands_on
