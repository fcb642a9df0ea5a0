use Rattle.wac_names.proofs.Read.{numbered}
use Rattle.wac_names.proofs.names.numbered.Goals as goal

pub returns : goal.returns
returns c = numbered c.args.names.now c.args.number c.get.result c.get.ensures.lookup
