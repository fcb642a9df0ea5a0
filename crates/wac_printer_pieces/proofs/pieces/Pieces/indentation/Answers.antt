use Rattle.wac_printer_pieces.proofs.Common.{ap, ◌∙◌, times}
use Rattle.wac_printer_pieces.specs.Printed.{Printer}
use Rattle.wac_printer_pieces.proofs.Indentation.{at_once, prints_same}
use Rattle.wac_printer_pieces.proofs.pieces.Pieces.indentation.Goals as goal

pub returns-in-Some : goal.returns-in-Some
returns-in-Some g c =
    let s = c.args.self.now in
    let space = ap (λ (p : Printer). p.space) c.self.view_is in
    let depth = ap (λ (p : Printer). p.depth) c.self.view_is in
    prints_same s _ _ _ _ (at_once s.depth c.in-Some.whole.now s (c.in-Some.ensures ∙ (λ i. times (depth i) (space i)))) c.blank.ensures
