use Rattle.wac_printer_layout.proofs.Common.{slice}
use Rattle.wac_printer_layout.proofs.Fine.{Fine, fine, accepted}
use Rattle.wac_printer_layout.proofs.AcceptedItems.{items_accepted, slice_holds}
use Rattle.wac_printer_layout.proofs.laws.items_are_accepted.Goals as goal

pub returns-clause-items : goal.returns-clause-items
returns-clause-items c = items_accepted

pub returns-clause-slices : goal.returns-clause-slices
returns-clause-slices c = λ source s h slices. accepted (slice source s) (slice_holds Fine source s (fine source h) slices)
