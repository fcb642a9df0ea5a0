use Rattle.wac_ast_grammar.specs.Walk.{walk_world_item}
use Rattle.wac_printer.proofs.Common.{bare_ident, codes, map, ◌∙◌, head_layout, first, last, there, world_item_of, ident_of}
use Rattle.wac_printer_layout.specs.WorldLayout.{world_item_layout}
use Rattle.wac_printer_layout.specs.Parts.{body}
use Rattle.wac_printer_layout.specs.Bare.{doc_lines, bare}
use Rattle.wac_printer_pieces.proofs.Sequence.{after}
use Rattle.wac_printer.proofs.BareLists.{of_docs}
use Rattle.wac_printer.proofs.printer.DocumentPrinter.world_decl.Goals as goal

pub returns : goal.returns
returns g c = last c.and-2.ensures (after c.and.ensures (first (of_docs c.deref.ensures.value c.docs.ensures)) (there (λ source depth. head_layout depth (codes "world") (bare_ident source (ident_of c.args.decl.now.id))) (c.docs.ensures.keeps.0) (c.docs.ensures.keeps.2) c.head.ensures)) (there (λ source depth. body world_item_layout depth (map (walk_world_item (bare source) doc_lines) (map world_item_of c.args.decl.now.items.items))) (c.head.ensures.keeps.0 ∙ c.docs.ensures.keeps.0) (c.head.ensures.keeps.2 ∙ c.docs.ensures.keeps.2) c.print_items.ensures)
