use Rattle.wac_printer.proofs.Common.{[], ◌∷◌, ◌++◌, codes, flat_map, token, newline, deeper_part}
use Rattle.wac_printer.proofs.printer.DocumentPrinter.deeper_rows.Goals as goal

pub returns : goal.returns
returns g c = deeper_part _ _ _ _ _ _ (λ source depth. flat_map (λ x. g.T.Node.layout source depth x ++ token (codes ",") ∷ newline ∷ []) c.args.items.now) c.indent-depth.ensures.0 c.indent-depth.ensures.1 c.each_row-printed.ensures c.dedent.ensures
