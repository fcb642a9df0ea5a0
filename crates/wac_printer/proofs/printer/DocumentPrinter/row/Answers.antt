use Rattle.wac_printer.proofs.Common.{first, last}
use Rattle.wac_printer_pieces.proofs.Sequence.{after}
use Rattle.wac_printer.proofs.printer.DocumentPrinter.row.Goals as goal

pub returns : goal.returns
returns g c = last c.and-2.ensures (after c.and.ensures (first c.print.ensures) c.token.ensures) c.blank.ensures
