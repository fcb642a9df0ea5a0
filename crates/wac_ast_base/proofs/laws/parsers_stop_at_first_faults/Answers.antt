use Rattle.wac_ast_base.proofs.FirstFaults.{answers}
use Rattle.wac_ast_base.proofs.laws.parsers_stop_at_first_faults.Goals as goal

pub returns : goal.returns
returns g c = answers _ _
