use Rattle.wac_resolution_state.proofs.Added.{adds_func}
use Rattle.wac_resolution_state.proofs.state.State.add_func.Goals as goal

pub returns : goal.returns
returns c = adds_func c.args.self.now.graph c.add_func_type.new.self c.args.func c.in_ok-add_func_type.field-0 c.in_ok-add_func_type.ensures.ok c.in_ok-add_func_type.ensures.there
