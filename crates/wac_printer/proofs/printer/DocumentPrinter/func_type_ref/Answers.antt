use Rattle.wac_ast_grammar.specs.Walk.{walk_func_type_ref}
use Rattle.wac_printer.specs.Sliced.{printable}
use Rattle.wac_printer_layout.specs.Bare.{bare}
use Rattle.wac_printer.proofs.Common.{sym, subst, func_type_ref_of, Prints}
use Rattle.wac_printer_layout.specs.TypeLayout.{func_type_ref_layout}
use Rattle.wac_printer.proofs.printer.DocumentPrinter.func_type_ref.Goals as goal

pub func_type-requires : goal.func_type-requires
func_type-requires g c = subst (λ x. walk_func_type_ref (printable c.args.self.now.source) (func_type_ref_of x)) c.in-Func.is c.requires

pub returns-in-Func : goal.returns-in-Func
unfolding func_type_ref_layout
returns-in-Func g c =
    subst (λ x. Prints c.args.self.now c.func_type.result c.func_type.new.self (func_type_ref_layout (walk_func_type_ref (bare c.args.self.now.source) (func_type_ref_of x)))) (sym c.in-Func.is) c.func_type.ensures

pub ident-requires : goal.ident-requires
ident-requires g c = subst (λ x. walk_func_type_ref (printable c.args.self.now.source) (func_type_ref_of x)) c.in-Ident.is c.requires

pub returns-in-Ident : goal.returns-in-Ident
unfolding func_type_ref_layout
returns-in-Ident g c =
    subst (λ x. Prints c.args.self.now c.ident.result c.ident.new.self (func_type_ref_layout (walk_func_type_ref (bare c.args.self.now.source) (func_type_ref_of x)))) (sym c.in-Ident.is) c.ident.ensures
