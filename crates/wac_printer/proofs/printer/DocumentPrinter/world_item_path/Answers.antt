use Rattle.wac_ast_grammar.specs.Walk.{walk_world_item_path}
use Rattle.wac_printer.specs.Sliced.{any_docs, printable}
use Rattle.wac_printer.proofs.Common.{sym, subst, world_item_path_of, Prints}
use Rattle.wac_printer_layout.specs.WorldLayout.{world_item_path_layout}
use Rattle.wac_printer_layout.specs.Bare.{doc_lines, bare}
use Rattle.wac_printer.proofs.printer.DocumentPrinter.world_item_path.Goals as goal

pub named_world_item-requires : goal.named_world_item-requires
named_world_item-requires g c = subst (λ x. walk_world_item_path (printable c.args.self.now.source) any_docs (world_item_path_of x)) c.in-Named.is c.requires

pub returns-in-Named : goal.returns-in-Named
unfolding world_item_path_layout
returns-in-Named g c =
    subst (λ x. Prints c.args.self.now c.named_world_item.result c.named_world_item.new.self (world_item_path_layout c.args.self.now.depth (walk_world_item_path (bare c.args.self.now.source) doc_lines (world_item_path_of x)))) (sym c.in-Named.is) c.named_world_item.ensures

pub package_path-requires : goal.package_path-requires
package_path-requires g c = subst (λ x. walk_world_item_path (printable c.args.self.now.source) any_docs (world_item_path_of x)) c.in-Package.is c.requires

pub returns-in-Package : goal.returns-in-Package
unfolding world_item_path_layout
returns-in-Package g c =
    subst (λ x. Prints c.args.self.now c.package_path.result c.package_path.new.self (world_item_path_layout c.args.self.now.depth (walk_world_item_path (bare c.args.self.now.source) doc_lines (world_item_path_of x)))) (sym c.in-Package.is) c.package_path.ensures

pub ident-requires : goal.ident-requires
ident-requires g c = subst (λ x. walk_world_item_path (printable c.args.self.now.source) any_docs (world_item_path_of x)) c.in-Ident.is c.requires

pub returns-in-Ident : goal.returns-in-Ident
unfolding world_item_path_layout
returns-in-Ident g c =
    subst (λ x. Prints c.args.self.now c.ident.result c.ident.new.self (world_item_path_layout c.args.self.now.depth (walk_world_item_path (bare c.args.self.now.source) doc_lines (world_item_path_of x)))) (sym c.in-Ident.is) c.ident.ensures
