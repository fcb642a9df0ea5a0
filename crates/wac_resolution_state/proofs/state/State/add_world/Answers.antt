use Rattle.wac_resolution_state.proofs.Added.{adds_world}
use Rattle.wac_resolution_state.proofs.state.State.add_world.Goals as goal

pub returns : goal.returns
returns c = adds_world c.args.self.now.graph c.add_world.new.self c.args.world c.in_ok-add_world.field-0 c.in_ok-add_world.ensures.ok c.in_ok-add_world.ensures.there
