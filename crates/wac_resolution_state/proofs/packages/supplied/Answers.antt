use Rattle.wac_resolution_state.proofs.Common.{◌∙◌}
use Rattle.wac_resolution_state.proofs.Keys.{keyed_found}
use Rattle.wac_resolution_state.proofs.packages.supplied.Goals as goal

pub returns : goal.returns
returns c = c.get.ensures.value ∙ keyed_found c.args.key.now c.args.context.now.packages.now.entries
