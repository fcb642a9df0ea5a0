use Rattle.wac_printer.proofs.Common.{line, token, first, last, printed_at, [], ◌∙◌, ◌∷◌, slice}
use Rattle.wac_printer_pieces.proofs.Sequence.{after}
use Rattle.wac_printer.proofs.BareLists.{of_docs}
use Rattle.wac_printer.proofs.printer.DocumentPrinter.flag.Goals as goal

pub returns : goal.returns
returns g c = last c.and-2.ensures (after c.and.ensures (first (of_docs c.deref.ensures.value c.docs.ensures)) (printed_at (λ depth. line depth ∷ []) (c.docs.ensures.keeps.2) c.line.ensures)) (printed_at (λ source. token (slice source c.args.flag.now.id.span) ∷ []) (c.line.ensures.keeps.0 ∙ c.docs.ensures.keeps.0) c.ident.ensures)
