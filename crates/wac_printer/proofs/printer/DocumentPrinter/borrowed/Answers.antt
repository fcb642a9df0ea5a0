use Rattle.wac_printer.proofs.Common.{first, last, printed_at, [], ◌∙◌, ◌∷◌, slice, token}
use Rattle.wac_printer_pieces.proofs.Sequence.{after}
use Rattle.wac_printer.proofs.printer.DocumentPrinter.borrowed.Goals as goal

pub returns : goal.returns
returns g c = last c.and-3.ensures (after c.and-2.ensures (after c.and.ensures (first c.token.ensures) c.token-2.ensures) (printed_at (λ source. token (slice source c.args.id.now.span) ∷ []) (c.token-2.ensures.keeps.0 ∙ c.token.ensures.keeps.0) c.ident.ensures)) c.token-3.ensures
