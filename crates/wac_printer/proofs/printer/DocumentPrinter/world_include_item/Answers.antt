use Rattle.wac_printer.proofs.Common.{first, last, printed_at, [], ◌∙◌, ◌∷◌, slice, token}
use Rattle.wac_printer_pieces.proofs.Sequence.{after}
use Rattle.wac_printer.proofs.printer.DocumentPrinter.world_include_item.Goals as goal

pub returns : goal.returns
returns g c = last c.and-5.ensures (after c.and-4.ensures (after c.and-3.ensures (after c.and-2.ensures (after c.and.ensures (first c.line.ensures) (printed_at (λ source. token (slice source c.args.item.now.from.span) ∷ []) (c.line.ensures.keeps.0) c.ident.ensures)) c.blank.ensures) c.token.ensures) c.blank-2.ensures) (printed_at (λ source. token (slice source c.args.item.now.to.span) ∷ []) (c.blank-2.ensures.keeps.0 ∙ c.token.ensures.keeps.0 ∙ c.blank.ensures.keeps.0 ∙ c.ident.ensures.keeps.0 ∙ c.line.ensures.keeps.0) c.ident-2.ensures)
