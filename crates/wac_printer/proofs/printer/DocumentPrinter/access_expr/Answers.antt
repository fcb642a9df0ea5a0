use Rattle.wac_printer.proofs.Common.{first, last, printed_at, [], ◌∷◌, slice, token}
use Rattle.wac_printer.proofs.printer.DocumentPrinter.access_expr.Goals as goal

pub returns : goal.returns
returns g c = last c.and.ensures (first c.token.ensures) (printed_at (λ source. token (slice source c.args.access.now.id.span) ∷ []) (c.token.ensures.keeps.0) c.ident.ensures)
