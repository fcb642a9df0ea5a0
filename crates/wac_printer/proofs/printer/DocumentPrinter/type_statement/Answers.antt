use Rattle.wac_ast_grammar.specs.Walk.{walk_type_statement}
use Rattle.wac_printer.specs.Sliced.{any_docs, printable}
use Rattle.wac_printer.proofs.Common.{sym, subst, type_statement_of, Prints}
use Rattle.wac_printer_layout.specs.StatementLayout.{type_statement_layout}
use Rattle.wac_printer_layout.specs.Bare.{doc_lines, bare}
use Rattle.wac_printer.proofs.printer.DocumentPrinter.type_statement.Goals as goal

pub interface_decl-requires : goal.interface_decl-requires
interface_decl-requires g c = subst (λ x. walk_type_statement (printable c.args.self.now.source) any_docs (type_statement_of x)) c.in-Interface.is c.requires

pub returns-in-Interface : goal.returns-in-Interface
unfolding type_statement_layout
returns-in-Interface g c =
    subst (λ x. Prints c.args.self.now c.interface_decl.result c.interface_decl.new.self (type_statement_layout c.args.self.now.depth (walk_type_statement (bare c.args.self.now.source) doc_lines (type_statement_of x)))) (sym c.in-Interface.is) c.interface_decl.ensures

pub world_decl-requires : goal.world_decl-requires
world_decl-requires g c = subst (λ x. walk_type_statement (printable c.args.self.now.source) any_docs (type_statement_of x)) c.in-World.is c.requires

pub returns-in-World : goal.returns-in-World
unfolding type_statement_layout
returns-in-World g c =
    subst (λ x. Prints c.args.self.now c.world_decl.result c.world_decl.new.self (type_statement_layout c.args.self.now.depth (walk_type_statement (bare c.args.self.now.source) doc_lines (type_statement_of x)))) (sym c.in-World.is) c.world_decl.ensures

pub type_decl-requires : goal.type_decl-requires
type_decl-requires g c = subst (λ x. walk_type_statement (printable c.args.self.now.source) any_docs (type_statement_of x)) c.in-Ty.is c.requires

pub returns-in-Ty : goal.returns-in-Ty
unfolding type_statement_layout
returns-in-Ty g c =
    subst (λ x. Prints c.args.self.now c.type_decl.result c.type_decl.new.self (type_statement_layout c.args.self.now.depth (walk_type_statement (bare c.args.self.now.source) doc_lines (type_statement_of x)))) (sym c.in-Ty.is) c.type_decl.ensures
