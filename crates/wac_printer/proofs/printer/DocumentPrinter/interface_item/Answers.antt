use Rattle.wac_ast_grammar.specs.Walk.{walk_interface_item, walk_use}
use Rattle.wac_printer.specs.Sliced.{any_docs, printable}
use Rattle.wac_printer.proofs.Common.{sym, subst, interface_item_of, use_of, Prints, use_layout}
use Rattle.wac_printer_layout.specs.InterfaceLayout.{interface_item_layout}
use Rattle.wac_printer_layout.specs.Bare.{doc_lines, bare}
use Rattle.wac_printer.proofs.printer.DocumentPrinter.interface_item.Goals as goal

pub use_type-requires : goal.use_type-requires
use_type-requires g c =
    subst (λ x. walk_use (printable c.args.self.now.source) any_docs (use_of x)) (sym c.deref.ensures)
    (subst (λ x. walk_interface_item (printable c.args.self.now.source) any_docs (interface_item_of x)) c.in-Use.is c.requires)

pub returns-in-Use : goal.returns-in-Use
unfolding interface_item_layout
returns-in-Use g c =
    subst (λ x. Prints c.args.self.now c.use_type.result c.use_type.new.self (interface_item_layout c.args.self.now.depth (walk_interface_item (bare c.args.self.now.source) doc_lines (interface_item_of x)))) (sym c.in-Use.is)
    (subst (λ x. Prints c.args.self.now c.use_type.result c.use_type.new.self (use_layout c.args.self.now.depth (walk_use (bare c.args.self.now.source) doc_lines (use_of x)))) c.deref.ensures c.use_type.ensures)

pub item_type_decl-requires : goal.item_type_decl-requires
item_type_decl-requires g c = subst (λ x. walk_interface_item (printable c.args.self.now.source) any_docs (interface_item_of x)) c.in-Ty.is c.requires

pub returns-in-Ty : goal.returns-in-Ty
unfolding interface_item_layout
returns-in-Ty g c =
    subst (λ x. Prints c.args.self.now c.item_type_decl.result c.item_type_decl.new.self (interface_item_layout c.args.self.now.depth (walk_interface_item (bare c.args.self.now.source) doc_lines (interface_item_of x)))) (sym c.in-Ty.is) c.item_type_decl.ensures

pub interface_export-requires : goal.interface_export-requires
interface_export-requires g c = subst (λ x. walk_interface_item (printable c.args.self.now.source) any_docs (interface_item_of x)) c.in-Export.is c.requires

pub returns-in-Export : goal.returns-in-Export
unfolding interface_item_layout
returns-in-Export g c =
    subst (λ x. Prints c.args.self.now c.interface_export.result c.interface_export.new.self (interface_item_layout c.args.self.now.depth (walk_interface_item (bare c.args.self.now.source) doc_lines (interface_item_of x)))) (sym c.in-Export.is) c.interface_export.ensures
