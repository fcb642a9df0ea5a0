use Rattle.wac_printer.proofs.Common.{IsSoFar}
use Rattle.wac_printer.proofs.printer.DocumentPrinter.each.Given as goal

abbrev pub invariant-loop-item : goal.invariant-loop-item
invariant-loop-item g l = IsSoFar (g.T.Node.layout) l.items l.item-index l.fn.self l.self
