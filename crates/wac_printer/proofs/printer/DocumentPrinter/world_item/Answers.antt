use Rattle.wac_ast_grammar.specs.Walk.{walk_world_item}
use Rattle.wac_printer.specs.Sliced.{any_docs, printable}
use Rattle.wac_printer.proofs.Common.{sym, subst, world_item_of, Prints}
use Rattle.wac_printer_layout.specs.WorldLayout.{world_item_layout}
use Rattle.wac_printer_layout.specs.Bare.{doc_lines, bare}
use Rattle.wac_printer.proofs.printer.DocumentPrinter.world_item.Goals as goal

pub use_type-requires : goal.use_type-requires
use_type-requires g c = subst (λ x. walk_world_item (printable c.args.self.now.source) any_docs (world_item_of x)) c.in-Use.is c.requires

pub returns-in-Use : goal.returns-in-Use
unfolding world_item_layout
returns-in-Use g c =
    subst (λ x. Prints c.args.self.now c.use_type.result c.use_type.new.self (world_item_layout c.args.self.now.depth (walk_world_item (bare c.args.self.now.source) doc_lines (world_item_of x)))) (sym c.in-Use.is) c.use_type.ensures

pub item_type_decl-requires : goal.item_type_decl-requires
item_type_decl-requires g c = subst (λ x. walk_world_item (printable c.args.self.now.source) any_docs (world_item_of x)) c.in-Ty.is c.requires

pub returns-in-Ty : goal.returns-in-Ty
unfolding world_item_layout
returns-in-Ty g c =
    subst (λ x. Prints c.args.self.now c.item_type_decl.result c.item_type_decl.new.self (world_item_layout c.args.self.now.depth (walk_world_item (bare c.args.self.now.source) doc_lines (world_item_of x)))) (sym c.in-Ty.is) c.item_type_decl.ensures

pub world_import-requires : goal.world_import-requires
world_import-requires g c = subst (λ x. walk_world_item (printable c.args.self.now.source) any_docs (world_item_of x)) c.in-Import.is c.requires

pub returns-in-Import : goal.returns-in-Import
unfolding world_item_layout
returns-in-Import g c =
    subst (λ x. Prints c.args.self.now c.world_import.result c.world_import.new.self (world_item_layout c.args.self.now.depth (walk_world_item (bare c.args.self.now.source) doc_lines (world_item_of x)))) (sym c.in-Import.is) c.world_import.ensures

pub world_export-requires : goal.world_export-requires
world_export-requires g c = subst (λ x. walk_world_item (printable c.args.self.now.source) any_docs (world_item_of x)) c.in-Export.is c.requires

pub returns-in-Export : goal.returns-in-Export
unfolding world_item_layout
returns-in-Export g c =
    subst (λ x. Prints c.args.self.now c.world_export.result c.world_export.new.self (world_item_layout c.args.self.now.depth (walk_world_item (bare c.args.self.now.source) doc_lines (world_item_of x)))) (sym c.in-Export.is) c.world_export.ensures

pub world_include-requires : goal.world_include-requires
world_include-requires g c = subst (λ x. walk_world_item (printable c.args.self.now.source) any_docs (world_item_of x)) c.in-Include.is c.requires

pub returns-in-Include : goal.returns-in-Include
unfolding world_item_layout
returns-in-Include g c =
    subst (λ x. Prints c.args.self.now c.world_include.result c.world_include.new.self (world_item_layout c.args.self.now.depth (walk_world_item (bare c.args.self.now.source) doc_lines (world_item_of x)))) (sym c.in-Include.is) c.world_include.ensures
