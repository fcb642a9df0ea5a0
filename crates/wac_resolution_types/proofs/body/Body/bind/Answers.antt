use Rattle.wac_resolution_types.proofs.Found.{value_fresh}
use Rattle.wac_resolution_types.proofs.body.Body.bind.Goals as goal

pub bind-requires : goal.bind-requires
bind-requires c = value_fresh c.args.id.now.string.now c.args.self.now.names c.requires.bound
