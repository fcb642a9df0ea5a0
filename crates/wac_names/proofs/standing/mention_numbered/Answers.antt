use Rattle.wac_names.proofs.Read.{numbered}
use Rattle.wac_names.proofs.standing.mention_numbered.Goals as goal

pub returns : goal.returns
returns c = numbered c.args.mentions.now c.args.number c.get.result c.get.ensures.lookup
