use Rattle.wac_printer.specs.Sliced.{IdentSliced}
use Rattle.wac_printer.proofs.printer.DocumentPrinter.ident.Goals as goal

pub spelled-requires : goal.spelled-requires
unfolding IdentSliced
spelled-requires g c = c.requires
