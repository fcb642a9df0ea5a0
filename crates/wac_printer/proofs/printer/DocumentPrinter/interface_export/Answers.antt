use Rattle.wac_ast_grammar.specs.Walk.{walk_func_type_ref}
use Rattle.wac_printer_layout.specs.Bare.{bare}
use Rattle.wac_printer.proofs.Common.{label_layout, ◌∙◌, first, last, printed_at, there, bare_ident, func_type_ref_of, ident_of}
use Rattle.wac_printer_layout.specs.TypeLayout.{func_type_ref_layout}
use Rattle.wac_printer_pieces.proofs.Sequence.{after}
use Rattle.wac_printer.proofs.BareLists.{of_docs}
use Rattle.wac_printer.proofs.printer.DocumentPrinter.interface_export.Goals as goal

pub returns : goal.returns
returns g c = last c.and-3.ensures (after c.and-2.ensures (after c.and.ensures (first (of_docs c.deref.ensures.value c.docs.ensures)) (there (λ source depth. label_layout depth (bare_ident source (ident_of c.args.export.now.id))) (c.docs.ensures.keeps.0) (c.docs.ensures.keeps.2) c.label.ensures)) (printed_at (λ source. func_type_ref_layout (walk_func_type_ref (bare source) (func_type_ref_of c.args.export.now.ty))) (c.label.ensures.keeps.0 ∙ c.docs.ensures.keeps.0) c.func_type_ref.ensures)) c.token.ensures
