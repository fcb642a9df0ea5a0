use Rattle.wac_printer.proofs.Common.{first, last}
use Rattle.wac_printer.proofs.printer.DocumentPrinter.close_body.Goals as goal

pub returns : goal.returns
returns g c = last c.and.ensures (first c.line.ensures) c.token.ensures
