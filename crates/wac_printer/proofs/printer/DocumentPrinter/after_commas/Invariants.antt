use Rattle.wac_printer.proofs.Common.{[], ◌∷◌, ◌++◌, codes, token, space, IsSoFar}
use Rattle.wac_printer.proofs.printer.DocumentPrinter.after_commas.Given as goal

abbrev pub invariant-loop-item : goal.invariant-loop-item
invariant-loop-item g l = IsSoFar (λ source depth x. (token (codes ",") ∷ space ∷ []) ++ g.T.Node.layout source depth x) l.items l.item-index l.fn.self l.self
