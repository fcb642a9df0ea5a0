use Rattle.wac_printer.proofs.printer.DocumentPrinter.resource_head.Goals as goal

pub returns : goal.returns
returns g c = c.head.ensures
