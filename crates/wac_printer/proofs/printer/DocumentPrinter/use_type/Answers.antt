use Rattle.wac_ast_grammar.specs.Walk.{walk_use_item, walk_use_path}
use Rattle.wac_printer_layout.specs.Bare.{bare}
use Rattle.wac_printer.proofs.Common.{[], map, ◌∙◌, ◌∷◌, first, last, printed_at, use_item_of, use_path_of, line, use_items_layout, use_path_layout}
use Rattle.wac_printer_pieces.proofs.Sequence.{after}
use Rattle.wac_printer.proofs.BareLists.{of_docs}
use Rattle.wac_printer.proofs.printer.DocumentPrinter.use_type.Goals as goal

pub returns : goal.returns
returns g c = last c.and-6.ensures (after c.and-5.ensures (after c.and-4.ensures (after c.and-3.ensures (after c.and-2.ensures (after c.and.ensures (first (of_docs c.deref.ensures.value c.docs.ensures)) (printed_at (λ depth. line depth ∷ []) (c.docs.ensures.keeps.2) c.line.ensures)) c.token.ensures) c.blank.ensures) (printed_at (λ source. use_path_layout (walk_use_path (bare source) (use_path_of c.args.decl.now.path))) (c.blank.ensures.keeps.0 ∙ c.token.ensures.keeps.0 ∙ c.line.ensures.keeps.0 ∙ c.docs.ensures.keeps.0) c.use_path.ensures)) (printed_at (λ xs. use_items_layout (map (walk_use_item (bare c.args.self.now.source)) (map use_item_of xs))) c.deref-2.ensures.value (printed_at (λ source. use_items_layout (map (walk_use_item (bare source)) (map use_item_of c.deref-2.result.now))) (c.use_path.ensures.keeps.0 ∙ c.blank.ensures.keeps.0 ∙ c.token.ensures.keeps.0 ∙ c.line.ensures.keeps.0 ∙ c.docs.ensures.keeps.0) c.use_items.ensures))) c.token-2.ensures
