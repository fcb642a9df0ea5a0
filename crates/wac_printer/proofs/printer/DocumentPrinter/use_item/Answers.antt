use Rattle.wac_printer.proofs.Common.{first, last, printed_at, option_map, bare_ident, ident_of, as_layout}
use Rattle.wac_printer.proofs.printer.DocumentPrinter.use_item.Goals as goal

pub returns : goal.returns
returns g c = last c.and.ensures (first c.ident.ensures) (printed_at (λ source. as_layout (option_map (bare_ident source) (option_map ident_of c.args.item.now.as_id))) (c.ident.ensures.keeps.0) c.as_ident.ensures)
