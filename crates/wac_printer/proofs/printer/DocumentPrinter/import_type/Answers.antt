use Rattle.wac_ast_grammar.specs.Walk.{walk_import_type}
use Rattle.wac_printer.specs.Sliced.{any_docs, printable}
use Rattle.wac_printer.proofs.Common.{sym, subst, import_type_of, Prints}
use Rattle.wac_printer_layout.specs.StatementLayout.{import_type_layout}
use Rattle.wac_printer_layout.specs.Bare.{doc_lines, bare}
use Rattle.wac_printer.proofs.printer.DocumentPrinter.import_type.Goals as goal

pub package_path-requires : goal.package_path-requires
package_path-requires g c = subst (λ x. walk_import_type (printable c.args.self.now.source) any_docs (import_type_of x)) c.in-Package.is c.requires

pub returns-in-Package : goal.returns-in-Package
unfolding import_type_layout
returns-in-Package g c =
    subst (λ x. Prints c.args.self.now c.package_path.result c.package_path.new.self (import_type_layout c.args.self.now.depth (walk_import_type (bare c.args.self.now.source) doc_lines (import_type_of x)))) (sym c.in-Package.is) c.package_path.ensures

pub func_type-requires : goal.func_type-requires
func_type-requires g c = subst (λ x. walk_import_type (printable c.args.self.now.source) any_docs (import_type_of x)) c.in-Func.is c.requires

pub returns-in-Func : goal.returns-in-Func
unfolding import_type_layout
returns-in-Func g c =
    subst (λ x. Prints c.args.self.now c.func_type.result c.func_type.new.self (import_type_layout c.args.self.now.depth (walk_import_type (bare c.args.self.now.source) doc_lines (import_type_of x)))) (sym c.in-Func.is) c.func_type.ensures

pub inline_interface-requires : goal.inline_interface-requires
inline_interface-requires g c = subst (λ x. walk_import_type (printable c.args.self.now.source) any_docs (import_type_of x)) c.in-Interface.is c.requires

pub returns-in-Interface : goal.returns-in-Interface
unfolding import_type_layout
returns-in-Interface g c =
    subst (λ x. Prints c.args.self.now c.inline_interface.result c.inline_interface.new.self (import_type_layout c.args.self.now.depth (walk_import_type (bare c.args.self.now.source) doc_lines (import_type_of x)))) (sym c.in-Interface.is) c.inline_interface.ensures

pub ident-requires : goal.ident-requires
ident-requires g c = subst (λ x. walk_import_type (printable c.args.self.now.source) any_docs (import_type_of x)) c.in-Ident.is c.requires

pub returns-in-Ident : goal.returns-in-Ident
unfolding import_type_layout
returns-in-Ident g c =
    subst (λ x. Prints c.args.self.now c.ident.result c.ident.new.self (import_type_layout c.args.self.now.depth (walk_import_type (bare c.args.self.now.source) doc_lines (import_type_of x)))) (sym c.in-Ident.is) c.ident.ensures
