use Rattle.wac_ast_grammar.specs.Walk.{walk_extern_name, walk_import_type}
use Rattle.wac_printer.proofs.Common.{import_name_layout, first, last, printed_at, there, bare_ident, extern_name_of, ident_of, head_layout, option_map, codes, ◌∙◌, import_type_of}
use Rattle.wac_printer_layout.specs.Bare.{doc_lines, bare}
use Rattle.wac_printer_layout.specs.StatementLayout.{import_type_layout}
use Rattle.wac_printer_pieces.proofs.Sequence.{after}
use Rattle.wac_printer.proofs.BareLists.{of_docs}
use Rattle.wac_printer.proofs.printer.DocumentPrinter.import_statement.Goals as goal

pub returns : goal.returns
returns g c = last c.and-6.ensures (after c.and-5.ensures (after c.and-4.ensures (after c.and-3.ensures (after c.and-2.ensures (after c.and.ensures (first (of_docs c.deref.ensures.value c.docs.ensures)) (there (λ source depth. head_layout depth (codes "import") (bare_ident source (ident_of c.args.statement.now.id))) (c.docs.ensures.keeps.0) (c.docs.ensures.keeps.2) c.head.ensures)) (printed_at (λ source. import_name_layout (option_map (walk_extern_name (bare source)) (option_map extern_name_of c.args.statement.now.name))) (c.head.ensures.keeps.0 ∙ c.docs.ensures.keeps.0) c.import_name.ensures)) c.token.ensures) c.blank.ensures) (there (λ source depth. import_type_layout depth (walk_import_type (bare source) doc_lines (import_type_of c.args.statement.now.ty))) (c.blank.ensures.keeps.0 ∙ c.token.ensures.keeps.0 ∙ c.import_name.ensures.keeps.0 ∙ c.head.ensures.keeps.0 ∙ c.docs.ensures.keeps.0) (c.blank.ensures.keeps.2 ∙ c.token.ensures.keeps.2 ∙ c.import_name.ensures.keeps.2 ∙ c.head.ensures.keeps.2 ∙ c.docs.ensures.keeps.2) c.import_type.ensures)) c.token-2.ensures
