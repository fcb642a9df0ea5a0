use Rattle.wac_declared_packages.proofs.Common.{◌∙◌, keyed_found}
use Rattle.wac_declared_packages.proofs.supplying.found.Goals as goal

pub returns : goal.returns
returns c = c.get.ensures.value ∙ keyed_found c.args.key.now c.args.packages.now.entries
