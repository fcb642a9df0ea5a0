use Rattle.wac_ast_grammar.specs.Walk.{walk_type_alias_kind}
use Rattle.wac_printer.specs.Sliced.{printable}
use Rattle.wac_printer_layout.specs.Bare.{bare}
use Rattle.wac_printer.proofs.Common.{sym, subst, type_alias_kind_of, Prints}
use Rattle.wac_printer_layout.specs.DeclarationLayout.{alias_kind_layout}
use Rattle.wac_printer.proofs.printer.DocumentPrinter.alias_kind.Goals as goal

pub func_type-requires : goal.func_type-requires
func_type-requires g c = subst (λ x. walk_type_alias_kind (printable c.args.self.now.source) (type_alias_kind_of x)) c.in-Func.is c.requires

pub returns-in-Func : goal.returns-in-Func
unfolding alias_kind_layout
returns-in-Func g c =
    subst (λ x. Prints c.args.self.now c.func_type.result c.func_type.new.self (alias_kind_layout (walk_type_alias_kind (bare c.args.self.now.source) (type_alias_kind_of x)))) (sym c.in-Func.is) c.func_type.ensures

pub ty-requires : goal.ty-requires
ty-requires g c = subst (λ x. walk_type_alias_kind (printable c.args.self.now.source) (type_alias_kind_of x)) c.in-Ty.is c.requires

pub returns-in-Ty : goal.returns-in-Ty
unfolding alias_kind_layout
returns-in-Ty g c =
    subst (λ x. Prints c.args.self.now c.ty.result c.ty.new.self (alias_kind_layout (walk_type_alias_kind (bare c.args.self.now.source) (type_alias_kind_of x)))) (sym c.in-Ty.is) c.ty.ensures
