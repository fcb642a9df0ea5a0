use Rattle.wac_printer.proofs.Common.{first, last}
use Rattle.wac_printer.proofs.printer.DocumentPrinter.ended.Goals as goal

pub returns : goal.returns
returns g c = last c.and.ensures (first c.print.ensures) c.blank.ensures
