use Rattle.wac_printer.proofs.Common.{first, last, printed_at, [], ◌∙◌, ◌∷◌, slice, token}
use Rattle.wac_printer_pieces.proofs.Sequence.{after}
use Rattle.wac_printer.proofs.printer.DocumentPrinter.new_head.Goals as goal

pub returns : goal.returns
returns g c = last c.and-4.ensures (after c.and-3.ensures (after c.and-2.ensures (after c.and.ensures (first c.token.ensures) c.blank.ensures) (printed_at (λ source. token (slice source c.args.name.now.span) ∷ []) (c.blank.ensures.keeps.0 ∙ c.token.ensures.keeps.0) c.package_name.ensures)) c.blank-2.ensures) c.token-2.ensures
