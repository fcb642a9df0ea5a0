use Rattle.wac_printer.proofs.printer.DocumentPrinter.constructor_keyword.Goals as goal

pub returns : goal.returns
returns g c = c.token.ensures
