use Rattle.wac_printer.proofs.Common.{◌∙◌, first, last, there}
use Rattle.wac_printer_pieces.proofs.Sequence.{after}
use Rattle.wac_printer.proofs.printer.DocumentPrinter.after_comma.Goals as goal

pub returns : goal.returns
returns g c = last c.and-2.ensures (after c.and.ensures (first c.token.ensures) c.blank.ensures) (there (λ source depth. g.T.Node.layout source depth c.args.item.now) (c.blank.ensures.keeps.0 ∙ c.token.ensures.keeps.0) (c.blank.ensures.keeps.2 ∙ c.token.ensures.keeps.2) c.print.ensures)
