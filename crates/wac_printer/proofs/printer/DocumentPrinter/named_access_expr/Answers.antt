use Rattle.wac_printer.proofs.Common.{first, last, printed_at, [], ◌∷◌, slice, token}
use Rattle.wac_printer_pieces.proofs.Sequence.{after}
use Rattle.wac_printer.proofs.printer.DocumentPrinter.named_access_expr.Goals as goal

pub returns : goal.returns
returns g c = last c.and-2.ensures (after c.and.ensures (first c.token.ensures) (printed_at (λ source. token (slice source c.args.access.now.string.span) ∷ []) (c.token.ensures.keeps.0) c.string.ensures)) c.token-2.ensures
