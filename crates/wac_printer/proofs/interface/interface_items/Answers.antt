use Rattle.wac_ast_grammar.specs.Walk.{walk_interface_item}
use Rattle.wac_printer.specs.Sliced.{any_docs, printable}
use Rattle.wac_printer.proofs.Common.{map, sym, subst, ◌∙◌, interface_item_of, Prints, All-of-map}
use Rattle.wac_printer_layout.specs.InterfaceLayout.{interface_item_layout}
use Rattle.wac_printer_layout.specs.Bare.{doc_lines, bare}
use Rattle.wac_printer.proofs.PartsOf.{body-of}
use Rattle.wac_printer.proofs.interface.interface_items.Goals as goal

pub body-requires : goal.body-requires
body-requires g c = All-of-map (walk_interface_item (printable c.args.printer.now.source) any_docs) interface_item_of c.args.items.now c.requires

pub returns : goal.returns
returns g c =
    let s = c.args.printer.now in
    subst (Prints s c.body.result c.body.new.self) (sym (body-of interface_item_layout (walk_interface_item (bare s.source) doc_lines) s.depth (map interface_item_of c.args.items.now) ∙ body-of (λ d x. interface_item_layout d ((walk_interface_item (bare s.source) doc_lines) x)) interface_item_of s.depth c.args.items.now)) c.body.ensures
