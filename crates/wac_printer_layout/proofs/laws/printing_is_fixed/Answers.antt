use Rattle.wac_printer_layout.proofs.FixedPrint.{fixed}
use Rattle.wac_printer_layout.proofs.TreesBack.{spelled}
use Rattle.wac_printer_layout.proofs.laws.printing_is_fixed.Goals as goal

pub returns : goal.returns
returns c = λ space source once twice tree again third utf8 is e f. fixed space source once twice tree again third (spelled source tree utf8 is) e f
