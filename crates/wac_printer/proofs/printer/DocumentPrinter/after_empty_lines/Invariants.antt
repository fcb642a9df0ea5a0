use Rattle.wac_printer.proofs.Common.{[], ◌∷◌, ◌++◌, newline, IsSoFar}
use Rattle.wac_printer.proofs.printer.DocumentPrinter.after_empty_lines.Given as goal

abbrev pub invariant-loop-item : goal.invariant-loop-item
invariant-loop-item g l = IsSoFar (λ source depth x. newline ∷ (g.T.Node.layout source depth x ++ newline ∷ [])) l.items l.item-index l.fn.self l.self
