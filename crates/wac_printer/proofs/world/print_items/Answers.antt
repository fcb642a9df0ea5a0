use Rattle.wac_ast_grammar.specs.Walk.{walk_world_item}
use Rattle.wac_printer.specs.Sliced.{any_docs, printable}
use Rattle.wac_printer.proofs.Common.{map, sym, subst, All, world_item_of, All-of-map, printed_as, printed_at}
use Rattle.wac_printer_layout.specs.WorldLayout.{world_item_layout}
use Rattle.wac_printer_layout.specs.Parts.{body}
use Rattle.wac_printer_layout.specs.Bare.{doc_lines, bare}
use Rattle.wac_printer.proofs.BareLists.{body_bare}
use Rattle.wac_printer.proofs.world.print_items.Goals as goal

pub body-requires : goal.body-requires
body-requires g c =
    let sliced = subst (λ xs. All (walk_world_item (printable c.args.printer.now.source) any_docs) (map world_item_of xs)) (sym c.items_of.ensures) c.requires in
    All-of-map (walk_world_item (printable c.args.printer.now.source) any_docs) world_item_of c.items_of.result.now sliced

pub returns : goal.returns
returns g c =
    let s = c.args.printer.now in
    printed_at (λ xs. body world_item_layout s.depth (map (walk_world_item (bare s.source) doc_lines) (map world_item_of xs))) c.items_of.ensures
    (printed_as (body_bare world_item_layout (walk_world_item (bare s.source) doc_lines) world_item_of s.depth c.items_of.result.now) c.body.ensures)
