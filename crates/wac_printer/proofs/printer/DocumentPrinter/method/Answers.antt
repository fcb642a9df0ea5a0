use Rattle.wac_ast_grammar.specs.Walk.{walk_func_type}
use Rattle.wac_printer_layout.specs.Bare.{bare}
use Rattle.wac_printer.proofs.Common.{func_type_of, label_layout, bare_ident, ◌∙◌, first, last, printed_at, there, func_type_layout, ident_of}
use Rattle.wac_printer_pieces.proofs.Sequence.{after}
use Rattle.wac_printer.proofs.BareLists.{of_docs}
use Rattle.wac_printer.proofs.printer.DocumentPrinter.method.Goals as goal

pub returns : goal.returns
returns g c = last c.and-4.ensures (after c.and-3.ensures (after c.and-2.ensures (after c.and.ensures (first (of_docs c.deref.ensures.value c.docs.ensures)) (there (λ source depth. label_layout depth (bare_ident source (ident_of c.args.method.now.id))) (c.docs.ensures.keeps.0) (c.docs.ensures.keeps.2) c.label.ensures)) c.static_keyword.ensures) (printed_at (λ source. func_type_layout (walk_func_type (bare source) (func_type_of c.args.method.now.ty))) (c.static_keyword.ensures.keeps.0 ∙ c.label.ensures.keeps.0 ∙ c.docs.ensures.keeps.0) c.func_type.ensures)) c.token.ensures
