use Rattle.wac_printer.proofs.Common.{first, last, there, [], ◌++◌, ◌∷◌, newline}
use Rattle.wac_printer.proofs.printer.DocumentPrinter.after_empty_line.Goals as goal

pub returns : goal.returns
returns g c = last c.and.ensures (first c.blank.ensures) (there (λ source depth. g.T.Node.layout source depth c.args.item.now ++ newline ∷ []) (c.blank.ensures.keeps.0) (c.blank.ensures.keeps.2) c.ended.ensures)
