use Rattle.wac_ast_grammar.specs.Walk.{walk_enum_case}
use Rattle.wac_printer.specs.Sliced.{any_docs, printable}
use Rattle.wac_printer.proofs.Common.{map, sym, subst, ◌∙◌, codes, All, enum_case_of, All-at, first, last, printed_as, printed_at, there, bare_ident, enum_case_layout, head_layout, ident_of}
use Rattle.wac_printer_layout.specs.Parts.{rows}
use Rattle.wac_printer_layout.specs.Bare.{doc_lines, bare}
use Rattle.wac_printer_pieces.proofs.Sequence.{after}
use Rattle.wac_printer.proofs.BareLists.{of_docs, rows_bare}
use Rattle.wac_printer.proofs.printer.DocumentPrinter.enum_decl.Goals as goal

pub rows-requires : goal.rows-requires
rows-requires g c = All-at (λ source. walk_enum_case (printable source) any_docs) enum_case_of c.deref-2.result.now _ _ (c.head.ensures.keeps.0 ∙ c.docs.ensures.keeps.0) (subst (λ xs. All (walk_enum_case (printable c.args.self.now.source) any_docs) (map enum_case_of xs)) (sym c.deref-2.ensures.value) c.requires.2)

pub returns : goal.returns
returns g c = last c.and-2.ensures (after c.and.ensures (first (of_docs c.deref.ensures.value c.docs.ensures)) (there (λ source depth. head_layout depth (codes "enum") (bare_ident source (ident_of c.args.decl.now.id))) (c.docs.ensures.keeps.0) (c.docs.ensures.keeps.2) c.head.ensures)) (printed_as (rows_bare enum_case_layout (walk_enum_case (bare c.args.self.now.source) doc_lines) enum_case_of c.args.self.now.depth c.args.decl.now.cases.items) (printed_at (λ xs. rows (λ d x. enum_case_layout d (walk_enum_case (bare c.args.self.now.source) doc_lines (enum_case_of x))) c.args.self.now.depth xs) c.deref-2.ensures.value (there (λ source depth. rows (λ d x. enum_case_layout d (walk_enum_case (bare source) doc_lines (enum_case_of x))) depth c.deref-2.result.now) (c.head.ensures.keeps.0 ∙ c.docs.ensures.keeps.0) (c.head.ensures.keeps.2 ∙ c.docs.ensures.keeps.2) c.rows.ensures)))
