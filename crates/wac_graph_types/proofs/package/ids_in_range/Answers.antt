use Rattle.wac_graph_types.proofs.Tested.{in_range_passes, passes_in_range}
use Rattle.wac_graph_types.proofs.package.ids_in_range.Goals as goal

pub returns : goal.returns
returns c = (λ t. passes_in_range _ (c.all_pass.ensures.0 t), λ h. c.all_pass.ensures.1 (in_range_passes _ h))
