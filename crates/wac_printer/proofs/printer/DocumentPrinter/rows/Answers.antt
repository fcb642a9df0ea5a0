use Rattle.wac_printer.proofs.Common.{sym, ◌∙◌, [], ◌∷◌, ◌++◌, codes, flat_map, token, deeper, newline, close_body, first, last, printed_as, printed_at, there}
use Rattle.wac_printer.proofs.PartsOf.{rows-is}
use Rattle.wac_printer_pieces.proofs.Sequence.{after}
use Rattle.wac_printer.proofs.printer.DocumentPrinter.rows.Goals as goal

pub returns : goal.returns
returns g c = printed_as (sym (rows-is (g.T.Node.layout c.args.self.now.source) c.args.self.now.depth c.args.items.now)) (last c.and-2.ensures (after c.and.ensures (first c.open_body.ensures) (there (λ source depth. flat_map (λ x. g.T.Node.layout source (deeper depth) x ++ token (codes ",") ∷ newline ∷ []) c.args.items.now) (c.open_body.ensures.keeps.0) (c.open_body.ensures.keeps.2) c.deeper_rows.ensures)) (printed_at (λ depth. close_body depth) (c.deeper_rows.ensures.keeps.2 ∙ c.open_body.ensures.keeps.2) c.close_body.ensures))
