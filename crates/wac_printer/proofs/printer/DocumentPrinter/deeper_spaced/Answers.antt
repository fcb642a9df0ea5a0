use Rattle.wac_printer.proofs.Common.{deeper_part}
use Rattle.wac_printer_layout.specs.Parts.{spaced}
use Rattle.wac_printer.proofs.printer.DocumentPrinter.deeper_spaced.Goals as goal

pub returns : goal.returns
returns g c = deeper_part _ _ _ _ _ _ (λ source depth. spaced (g.T.Node.layout source depth) c.args.items.now) c.indent-depth.ensures.0 c.indent-depth.ensures.1 c.spaced-printed.ensures c.dedent.ensures
