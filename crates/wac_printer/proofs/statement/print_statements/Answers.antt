use Rattle.wac_ast_grammar.specs.Walk.{walk_statement}
use Rattle.wac_printer.specs.Sliced.{any_docs, printable}
use Rattle.wac_printer.proofs.Common.{map, sym, subst, ◌∙◌, statement_of, Prints, All-of-map}
use Rattle.wac_printer_layout.specs.StatementLayout.{statement_layout}
use Rattle.wac_printer_layout.specs.Bare.{doc_lines, bare}
use Rattle.wac_printer.proofs.PartsOf.{spaced-of}
use Rattle.wac_printer.proofs.statement.print_statements.Goals as goal

pub spaced-requires : goal.spaced-requires
spaced-requires g c = All-of-map (walk_statement (printable c.args.printer.now.source) any_docs) statement_of c.args.statements.now c.requires

pub returns : goal.returns
returns g c =
    let s = c.args.printer.now in
    subst (Prints s c.spaced.result c.spaced.new.self) (sym (spaced-of (statement_layout s.depth) (walk_statement (bare s.source) doc_lines) (map statement_of c.args.statements.now) ∙ spaced-of (λ x. statement_layout s.depth ((walk_statement (bare s.source) doc_lines) x)) statement_of c.args.statements.now)) c.spaced.ensures
