use Rattle.wac_printer.proofs.Common.{sym, subst, Prints}
use Rattle.wac_printer.proofs.PartsOf.{docs-of}
use Rattle.wac_printer.proofs.printer.DocumentPrinter.docs.Goals as goal

pub returns : goal.returns
returns g c =
    let s = c.args.self.now in
    subst (Prints s c.each.result c.each.new.self) (sym (docs-of s.depth c.args.docs.now)) c.each.ensures
