use Rattle.wac_ast_grammar.specs.Walk.{walk_named_type}
use Rattle.wac_printer_layout.specs.Bare.{bare}
use Rattle.wac_printer.proofs.Common.{named_type_of, [], codes, map, ◌++◌, ◌∙◌, ◌∷◌, first, last, printed_at, line, token, params_layout}
use Rattle.wac_printer_pieces.proofs.Sequence.{after}
use Rattle.wac_printer.proofs.BareLists.{of_docs}
use Rattle.wac_printer.proofs.printer.DocumentPrinter.constructor.Goals as goal

pub returns : goal.returns
returns g c = last c.and-3.ensures (after c.and-2.ensures (after c.and.ensures (first (of_docs c.deref.ensures.value c.docs.ensures)) (printed_at (λ depth. line depth ∷ []) (c.docs.ensures.keeps.2) c.line.ensures)) c.constructor_keyword.ensures) (printed_at (λ xs. params_layout (map (walk_named_type (bare c.args.self.now.source)) (map named_type_of xs)) ++ token (codes ";") ∷ []) c.deref-2.ensures.value (printed_at (λ source. params_layout (map (walk_named_type (bare source)) (map named_type_of c.deref-2.result.now)) ++ token (codes ";") ∷ []) (c.constructor_keyword.ensures.keeps.0 ∙ c.line.ensures.keeps.0 ∙ c.docs.ensures.keeps.0) c.signature.ensures))
