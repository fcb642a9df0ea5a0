use Rattle.wac_ast_grammar.specs.Walk.{walk_ty}
use Rattle.wac_printer_layout.specs.Bare.{bare}
use Rattle.wac_printer.proofs.Common.{label_layout, bare_ident, ◌∙◌, first, last, printed_at, there, ty_of, ty_layout, ident_of}
use Rattle.wac_printer_pieces.proofs.Sequence.{after}
use Rattle.wac_printer.proofs.BareLists.{of_docs}
use Rattle.wac_printer.proofs.printer.DocumentPrinter.field.Goals as goal

pub returns : goal.returns
returns g c = last c.and-2.ensures (after c.and.ensures (first (of_docs c.deref.ensures.value c.docs.ensures)) (there (λ source depth. label_layout depth (bare_ident source (ident_of c.args.field.now.id))) (c.docs.ensures.keeps.0) (c.docs.ensures.keeps.2) c.label.ensures)) (printed_at (λ source. ty_layout (walk_ty (bare source) (ty_of c.args.field.now.ty))) (c.label.ensures.keeps.0 ∙ c.docs.ensures.keeps.0) c.ty.ensures)
