use Rattle.wac_ast_grammar.specs.Walk.{walk_ty}
use Rattle.wac_printer_layout.specs.Bare.{bare}
use Rattle.wac_printer.proofs.Common.{line, token, first, last, printed_at, [], ◌∙◌, ◌∷◌, payload_layout, option_map, ty_of, slice}
use Rattle.wac_printer_pieces.proofs.Sequence.{after}
use Rattle.wac_printer.proofs.BareLists.{of_docs}
use Rattle.wac_printer.proofs.printer.DocumentPrinter.variant_case.Goals as goal

pub returns : goal.returns
returns g c = last c.and-3.ensures (after c.and-2.ensures (after c.and.ensures (first (of_docs c.deref.ensures.value c.docs.ensures)) (printed_at (λ depth. line depth ∷ []) (c.docs.ensures.keeps.2) c.line.ensures)) (printed_at (λ source. token (slice source c.args.case.now.id.span) ∷ []) (c.line.ensures.keeps.0 ∙ c.docs.ensures.keeps.0) c.ident.ensures)) (printed_at (λ source. payload_layout (option_map (walk_ty (bare source)) (option_map ty_of c.args.case.now.ty))) (c.ident.ensures.keeps.0 ∙ c.line.ensures.keeps.0 ∙ c.docs.ensures.keeps.0) c.payload.ensures)
