use Rattle.wac_printer.specs.Sliced.{StringSliced}
use Rattle.wac_printer.proofs.printer.DocumentPrinter.string.Goals as goal

pub spelled-requires : goal.spelled-requires
unfolding StringSliced
spelled-requires g c = c.requires
