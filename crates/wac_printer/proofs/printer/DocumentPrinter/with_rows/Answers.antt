use Rattle.wac_ast_grammar.specs.Walk.{walk_world_include_item}
use Rattle.wac_printer.specs.Sliced.{printable}
use Rattle.wac_printer_layout.specs.Bare.{bare}
use Rattle.wac_printer.proofs.Common.{◌∙◌, world_include_item_of, All-at, first, last, printed_as, there, world_include_item_layout}
use Rattle.wac_printer_layout.specs.Parts.{rows}
use Rattle.wac_printer_pieces.proofs.Sequence.{after}
use Rattle.wac_printer.proofs.BareLists.{rows_bare}
use Rattle.wac_printer.proofs.printer.DocumentPrinter.with_rows.Goals as goal

pub rows-requires : goal.rows-requires
rows-requires g c = All-at (λ source. walk_world_include_item (printable source)) world_include_item_of c.args.items.now _ _ (c.token.ensures.keeps.0 ∙ c.blank.ensures.keeps.0) c.requires

pub returns : goal.returns
returns g c = last c.and-2.ensures (after c.and.ensures (first c.blank.ensures) c.token.ensures) (printed_as (rows_bare world_include_item_layout (walk_world_include_item (bare c.args.self.now.source)) world_include_item_of c.args.self.now.depth c.args.items.now) (there (λ source depth. rows (λ d x. world_include_item_layout d (walk_world_include_item (bare source) (world_include_item_of x))) depth c.args.items.now) (c.token.ensures.keeps.0 ∙ c.blank.ensures.keeps.0) (c.token.ensures.keeps.2 ∙ c.blank.ensures.keeps.2) c.rows.ensures))
