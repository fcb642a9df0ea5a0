use Rattle.wac_printer.proofs.Common.{[], ◌∷◌, ◌++◌, codes, token, newline, IsSoFar}
use Rattle.wac_printer.proofs.printer.DocumentPrinter.each_row.Given as goal

abbrev pub invariant-loop-item : goal.invariant-loop-item
invariant-loop-item g l = IsSoFar (λ source depth x. g.T.Node.layout source depth x ++ token (codes ",") ∷ newline ∷ []) l.items l.item-index l.fn.self l.self
