use Rattle.wac_printer.specs.Sliced.{PackageNameSliced}
use Rattle.wac_printer.proofs.printer.DocumentPrinter.package_name.Goals as goal

pub spelled-requires : goal.spelled-requires
unfolding PackageNameSliced
spelled-requires g c = c.requires
