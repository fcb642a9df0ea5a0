use Rattle.wac_ast_grammar.specs.Walk.{walk_extern_type}
use Rattle.wac_printer.specs.Sliced.{any_docs, printable}
use Rattle.wac_printer.proofs.Common.{sym, subst, extern_type_of, Prints}
use Rattle.wac_printer_layout.specs.WorldLayout.{extern_type_layout}
use Rattle.wac_printer_layout.specs.Bare.{doc_lines, bare}
use Rattle.wac_printer.proofs.printer.DocumentPrinter.extern_type.Goals as goal

pub ident-requires : goal.ident-requires
ident-requires g c = subst (λ x. walk_extern_type (printable c.args.self.now.source) any_docs (extern_type_of x)) c.in-Ident.is c.requires

pub returns-in-Ident : goal.returns-in-Ident
unfolding extern_type_layout
returns-in-Ident g c =
    subst (λ x. Prints c.args.self.now c.ident.result c.ident.new.self (extern_type_layout c.args.self.now.depth (walk_extern_type (bare c.args.self.now.source) doc_lines (extern_type_of x)))) (sym c.in-Ident.is) c.ident.ensures

pub func_type-requires : goal.func_type-requires
func_type-requires g c = subst (λ x. walk_extern_type (printable c.args.self.now.source) any_docs (extern_type_of x)) c.in-Func.is c.requires

pub returns-in-Func : goal.returns-in-Func
unfolding extern_type_layout
returns-in-Func g c =
    subst (λ x. Prints c.args.self.now c.func_type.result c.func_type.new.self (extern_type_layout c.args.self.now.depth (walk_extern_type (bare c.args.self.now.source) doc_lines (extern_type_of x)))) (sym c.in-Func.is) c.func_type.ensures

pub inline_interface-requires : goal.inline_interface-requires
inline_interface-requires g c = subst (λ x. walk_extern_type (printable c.args.self.now.source) any_docs (extern_type_of x)) c.in-Interface.is c.requires

pub returns-in-Interface : goal.returns-in-Interface
unfolding extern_type_layout
returns-in-Interface g c =
    subst (λ x. Prints c.args.self.now c.inline_interface.result c.inline_interface.new.self (extern_type_layout c.args.self.now.depth (walk_extern_type (bare c.args.self.now.source) doc_lines (extern_type_of x)))) (sym c.in-Interface.is) c.inline_interface.ensures
