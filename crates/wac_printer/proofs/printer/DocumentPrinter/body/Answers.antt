use Rattle.wac_printer.proofs.Common.{deeper, sym, ◌∙◌, first, last, printed_as, printed_at, there, close_body}
use Rattle.wac_printer_layout.specs.Parts.{spaced}
use Rattle.wac_printer_pieces.proofs.Sequence.{after}
use Rattle.wac_printer.proofs.PartsOf.{body-is}
use Rattle.wac_printer.proofs.printer.DocumentPrinter.body.Goals as goal

pub returns : goal.returns
returns g c = printed_as (sym (body-is (g.T.Node.layout c.args.self.now.source) c.args.self.now.depth c.args.items.now)) (last c.and-2.ensures (after c.and.ensures (first c.open_body.ensures) (there (λ source depth. spaced (g.T.Node.layout source (deeper depth)) c.args.items.now) (c.open_body.ensures.keeps.0) (c.open_body.ensures.keeps.2) c.deeper_spaced.ensures)) (printed_at (λ depth. close_body depth) (c.deeper_spaced.ensures.keeps.2 ∙ c.open_body.ensures.keeps.2) c.close_body.ensures))
