use Rattle.wac_printer.proofs.Common.{first, last, printed_at, [], ◌∷◌, slice, token}
use Rattle.wac_printer_pieces.proofs.Sequence.{after}
use Rattle.wac_printer.proofs.printer.DocumentPrinter.label.Goals as goal

pub returns : goal.returns
returns g c = last c.and-3.ensures (after c.and-2.ensures (after c.and.ensures (first c.line.ensures) (printed_at (λ source. token (slice source c.args.id.now.span) ∷ []) (c.line.ensures.keeps.0) c.ident.ensures)) c.token.ensures) c.blank.ensures
