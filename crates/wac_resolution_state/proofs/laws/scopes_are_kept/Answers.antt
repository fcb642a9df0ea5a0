use Rattle.wac_resolution_state.proofs.Expanding.{items_expanded, scope_expanded}
use Rattle.wac_resolution_state.proofs.laws.scopes_are_kept.Goals as goal

pub returns-clause-named : goal.returns-clause-named
returns-clause-named c = items_expanded

pub returns-clause-means : goal.returns-clause-means
returns-clause-means c = scope_expanded
