use Rattle.wac_graph_types.proofs.Tested.{of_sort_passes, passes_of_sort}
use Rattle.wac_graph_types.proofs.package.ids_of_sort.Goals as goal

pub returns : goal.returns
returns c = (λ t. passes_of_sort _ (c.all_pass.ensures.0 t), λ h. c.all_pass.ensures.1 (of_sort_passes _ h))
