use Rattle.wac_ast_grammar.specs.Walk.{walk_export_options, walk_expr}
use Rattle.wac_printer_layout.specs.Bare.{bare}
use Rattle.wac_printer.proofs.Common.{first, last, printed_at, there, export_options_layout, [], ◌∙◌, ◌∷◌, line, export_options_of, expr_of}
use Rattle.wac_printer_layout.specs.ExpressionLayout.{expr_layout}
use Rattle.wac_printer_pieces.proofs.Sequence.{after}
use Rattle.wac_printer.proofs.BareLists.{of_docs}
use Rattle.wac_printer.proofs.printer.DocumentPrinter.export_statement.Goals as goal

pub returns : goal.returns
returns g c = last c.and-6.ensures (after c.and-5.ensures (after c.and-4.ensures (after c.and-3.ensures (after c.and-2.ensures (after c.and.ensures (first (of_docs c.deref.ensures.value c.docs.ensures)) (printed_at (λ depth. line depth ∷ []) (c.docs.ensures.keeps.2) c.line.ensures)) c.token.ensures) c.blank.ensures) (there (λ source depth. expr_layout depth (walk_expr (bare source) (expr_of c.args.statement.now.expr))) (c.blank.ensures.keeps.0 ∙ c.token.ensures.keeps.0 ∙ c.line.ensures.keeps.0 ∙ c.docs.ensures.keeps.0) (c.blank.ensures.keeps.2 ∙ c.token.ensures.keeps.2 ∙ c.line.ensures.keeps.2 ∙ c.docs.ensures.keeps.2) c.expr.ensures)) (printed_at (λ source. export_options_layout (walk_export_options (bare source) (export_options_of c.args.statement.now.options))) (c.expr.ensures.keeps.0 ∙ c.blank.ensures.keeps.0 ∙ c.token.ensures.keeps.0 ∙ c.line.ensures.keeps.0 ∙ c.docs.ensures.keeps.0) c.export_options.ensures)) c.token-2.ensures
