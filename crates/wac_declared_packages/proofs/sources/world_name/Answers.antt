use Rattle.wac_declared_packages.proofs.Common.{◌∙◌, keyed_found}
use Rattle.wac_declared_packages.proofs.sources.world_name.Goals as goal

pub returns : goal.returns
returns c = c.get.ensures.value ∙ keyed_found c.args.key.now c.args.sources.now.worlds.now.entries
