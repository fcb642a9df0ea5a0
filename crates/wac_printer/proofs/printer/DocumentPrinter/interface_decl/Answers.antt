use Rattle.wac_ast_grammar.specs.Walk.{walk_interface_item}
use Rattle.wac_printer.proofs.Common.{codes, map, ◌∙◌, head_layout, bare_ident, first, last, printed_at, there, interface_item_of, ident_of}
use Rattle.wac_printer_layout.specs.InterfaceLayout.{interface_item_layout}
use Rattle.wac_printer_layout.specs.Parts.{body}
use Rattle.wac_printer_layout.specs.Bare.{doc_lines, bare}
use Rattle.wac_printer_pieces.proofs.Sequence.{after}
use Rattle.wac_printer.proofs.BareLists.{of_docs}
use Rattle.wac_printer.proofs.printer.DocumentPrinter.interface_decl.Goals as goal

pub returns : goal.returns
returns g c = last c.and-2.ensures (after c.and.ensures (first (of_docs c.deref.ensures.value c.docs.ensures)) (there (λ source depth. head_layout depth (codes "interface") (bare_ident source (ident_of c.args.decl.now.id))) (c.docs.ensures.keeps.0) (c.docs.ensures.keeps.2) c.interface_head.ensures)) (printed_at (λ xs. body interface_item_layout c.args.self.now.depth (map (walk_interface_item (bare c.args.self.now.source) doc_lines) (map interface_item_of xs))) c.deref-2.ensures.value (there (λ source depth. body interface_item_layout depth (map (walk_interface_item (bare source) doc_lines) (map interface_item_of c.deref-2.result.now))) (c.interface_head.ensures.keeps.0 ∙ c.docs.ensures.keeps.0) (c.interface_head.ensures.keeps.2 ∙ c.docs.ensures.keeps.2) c.interface_items.ensures))
