use Rattle.wac_printer.proofs.printer.DocumentPrinter.interface_keyword.Goals as goal

pub returns : goal.returns
returns g c = c.token.ensures
