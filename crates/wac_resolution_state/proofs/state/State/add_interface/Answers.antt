use Rattle.wac_resolution_state.proofs.Added.{adds_interface}
use Rattle.wac_resolution_state.proofs.state.State.add_interface.Goals as goal

pub returns : goal.returns
returns c = adds_interface c.args.self.now.graph c.add_interface.new.self c.args.interface c.in_ok-add_interface.field-0 c.in_ok-add_interface.ensures.ok c.in_ok-add_interface.ensures.there
