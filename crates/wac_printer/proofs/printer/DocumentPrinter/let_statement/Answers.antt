use Rattle.wac_ast_grammar.specs.Walk.{walk_expr}
use Rattle.wac_printer_layout.specs.Bare.{bare}
use Rattle.wac_printer.proofs.Common.{first, last, there, head_layout, codes, ◌∙◌, expr_of, bare_ident, ident_of}
use Rattle.wac_printer_layout.specs.ExpressionLayout.{expr_layout}
use Rattle.wac_printer_pieces.proofs.Sequence.{after}
use Rattle.wac_printer.proofs.BareLists.{of_docs}
use Rattle.wac_printer.proofs.printer.DocumentPrinter.let_statement.Goals as goal

pub returns : goal.returns
returns g c = last c.and-6.ensures (after c.and-5.ensures (after c.and-4.ensures (after c.and-3.ensures (after c.and-2.ensures (after c.and.ensures (first (of_docs c.deref.ensures.value c.docs.ensures)) (there (λ source depth. head_layout depth (codes "let") (bare_ident source (ident_of c.args.statement.now.id))) (c.docs.ensures.keeps.0) (c.docs.ensures.keeps.2) c.head.ensures)) c.blank.ensures) c.token.ensures) c.blank-2.ensures) (there (λ source depth. expr_layout depth (walk_expr (bare source) (expr_of c.args.statement.now.expr))) (c.blank-2.ensures.keeps.0 ∙ c.token.ensures.keeps.0 ∙ c.blank.ensures.keeps.0 ∙ c.head.ensures.keeps.0 ∙ c.docs.ensures.keeps.0) (c.blank-2.ensures.keeps.2 ∙ c.token.ensures.keeps.2 ∙ c.blank.ensures.keeps.2 ∙ c.head.ensures.keeps.2 ∙ c.docs.ensures.keeps.2) c.expr.ensures)) c.token-2.ensures
