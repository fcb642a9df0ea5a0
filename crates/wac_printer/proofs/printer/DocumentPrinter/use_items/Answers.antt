use Rattle.wac_ast_grammar.specs.Walk.{walk_use_item}
use Rattle.wac_printer.specs.Sliced.{printable}
use Rattle.wac_printer_layout.specs.Bare.{bare}
use Rattle.wac_printer.proofs.Common.{◌∙◌, use_item_of, All-at, first, last, printed_as, printed_at, use_item_layout}
use Rattle.wac_printer_layout.specs.Parts.{joined}
use Rattle.wac_printer_pieces.proofs.Sequence.{after}
use Rattle.wac_printer.proofs.BareLists.{joined_bare}
use Rattle.wac_printer.proofs.printer.DocumentPrinter.use_items.Goals as goal

pub joined-requires : goal.joined-requires
joined-requires g c = All-at (λ source. walk_use_item (printable source)) use_item_of c.args.items.now _ _ (c.blank.ensures.keeps.0 ∙ c.token-2.ensures.keeps.0 ∙ c.token.ensures.keeps.0) c.requires

pub returns : goal.returns
returns g c = last c.and-5.ensures (after c.and-4.ensures (after c.and-3.ensures (after c.and-2.ensures (after c.and.ensures (first c.token.ensures) c.token-2.ensures) c.blank.ensures) (printed_as (joined_bare use_item_layout (walk_use_item (bare c.args.self.now.source)) use_item_of c.args.items.now) (printed_at (λ source. joined (λ x. use_item_layout (walk_use_item (bare source) (use_item_of x))) c.args.items.now) (c.blank.ensures.keeps.0 ∙ c.token-2.ensures.keeps.0 ∙ c.token.ensures.keeps.0) c.joined.ensures))) c.blank-2.ensures) c.token-3.ensures
