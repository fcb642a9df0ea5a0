use Rattle.wac_resolution_state.proofs.Added.{adds_defined}
use Rattle.wac_resolution_state.proofs.state.State.add_defined.Goals as goal

pub returns : goal.returns
returns c = adds_defined c.args.self.now.graph c.add_defined_type.new.self c.args.ty c.in_ok-add_defined_type.field-0 c.in_ok-add_defined_type.ensures.ok c.in_ok-add_defined_type.ensures.there
