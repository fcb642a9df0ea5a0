use Rattle.wac_ast_grammar.specs.Walk.{walk_package_directive, walk_statement}
use Rattle.wac_printer.proofs.Common.{map, ◌∙◌, bare_document, directive_layout, document_layout, document_of, statement_of, directive_of, first, last, printed_at, there}
use Rattle.wac_printer_layout.specs.Parts.{spaced}
use Rattle.wac_printer_layout.specs.StatementLayout.{statement_layout}
use Rattle.wac_printer_layout.specs.Bare.{doc_lines, bare}
use Rattle.wac_printer_pieces.proofs.Sequence.{after}
use Rattle.wac_printer.proofs.BareLists.{of_docs}
use Rattle.wac_printer.proofs.printer.DocumentPrinter.page.Goals as goal

pub returns : goal.returns
returns g c = printed_at (λ z. document_layout c.args.self.now.depth (bare_document doc_lines c.args.self.now.source (document_of z))) c.page.view_is
    (last c.and-2.ensures (after c.and.ensures (first (of_docs c.deref.ensures.value c.docs.ensures)) (there (λ source depth. directive_layout depth (walk_package_directive (bare source) (directive_of c.page.inside.document.now.directive))) (c.docs.ensures.keeps.0) (c.docs.ensures.keeps.2) c.package_directive.ensures)) (printed_at (λ xs. spaced (statement_layout c.args.self.now.depth) (map (walk_statement (bare c.args.self.now.source) doc_lines) (map statement_of xs))) c.all.ensures (there (λ source depth. spaced (statement_layout depth) (map (walk_statement (bare source) doc_lines) (map statement_of c.all.result.now))) (c.package_directive.ensures.keeps.0 ∙ c.docs.ensures.keeps.0) (c.package_directive.ensures.keeps.2 ∙ c.docs.ensures.keeps.2) c.print_statements.ensures)))
