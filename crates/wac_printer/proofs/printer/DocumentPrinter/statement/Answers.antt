use Rattle.wac_ast_grammar.specs.Walk.{walk_statement}
use Rattle.wac_printer.specs.Sliced.{any_docs, printable}
use Rattle.wac_printer.proofs.Common.{sym, subst, statement_of, Prints}
use Rattle.wac_printer_layout.specs.StatementLayout.{statement_layout}
use Rattle.wac_printer_layout.specs.Bare.{doc_lines, bare}
use Rattle.wac_printer.proofs.printer.DocumentPrinter.statement.Goals as goal

pub import_statement-requires : goal.import_statement-requires
import_statement-requires g c = subst (λ x. walk_statement (printable c.args.self.now.source) any_docs (statement_of x)) c.in-Import.is c.requires

pub returns-in-Import : goal.returns-in-Import
unfolding statement_layout
returns-in-Import g c =
    subst (λ x. Prints c.args.self.now c.import_statement.result c.import_statement.new.self (statement_layout c.args.self.now.depth (walk_statement (bare c.args.self.now.source) doc_lines (statement_of x)))) (sym c.in-Import.is) c.import_statement.ensures

pub type_statement-requires : goal.type_statement-requires
type_statement-requires g c = subst (λ x. walk_statement (printable c.args.self.now.source) any_docs (statement_of x)) c.in-Ty.is c.requires

pub returns-in-Ty : goal.returns-in-Ty
unfolding statement_layout
returns-in-Ty g c =
    subst (λ x. Prints c.args.self.now c.type_statement.result c.type_statement.new.self (statement_layout c.args.self.now.depth (walk_statement (bare c.args.self.now.source) doc_lines (statement_of x)))) (sym c.in-Ty.is) c.type_statement.ensures

pub let_statement-requires : goal.let_statement-requires
let_statement-requires g c = subst (λ x. walk_statement (printable c.args.self.now.source) any_docs (statement_of x)) c.in-Let.is c.requires

pub returns-in-Let : goal.returns-in-Let
unfolding statement_layout
returns-in-Let g c =
    subst (λ x. Prints c.args.self.now c.let_statement.result c.let_statement.new.self (statement_layout c.args.self.now.depth (walk_statement (bare c.args.self.now.source) doc_lines (statement_of x)))) (sym c.in-Let.is) c.let_statement.ensures

pub export_statement-requires : goal.export_statement-requires
export_statement-requires g c = subst (λ x. walk_statement (printable c.args.self.now.source) any_docs (statement_of x)) c.in-Export.is c.requires

pub returns-in-Export : goal.returns-in-Export
unfolding statement_layout
returns-in-Export g c =
    subst (λ x. Prints c.args.self.now c.export_statement.result c.export_statement.new.self (statement_layout c.args.self.now.depth (walk_statement (bare c.args.self.now.source) doc_lines (statement_of x)))) (sym c.in-Export.is) c.export_statement.ensures
