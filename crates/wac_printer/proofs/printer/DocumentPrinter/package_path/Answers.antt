use Rattle.wac_printer.specs.Sliced.{PackagePathSliced}
use Rattle.wac_printer.proofs.printer.DocumentPrinter.package_path.Goals as goal

pub spelled-requires : goal.spelled-requires
unfolding PackagePathSliced
spelled-requires g c = c.requires
