use Rattle.wac_ast_grammar.specs.Walk.{walk_world_include_item, walk_world_ref}
use Rattle.wac_printer_layout.specs.Bare.{bare}
use Rattle.wac_printer.proofs.Common.{[], map, ◌∙◌, ◌∷◌, first, last, printed_at, there, with_layout, world_ref_layout, line, world_include_item_of, world_ref_of}
use Rattle.wac_printer_pieces.proofs.Sequence.{after}
use Rattle.wac_printer.proofs.BareLists.{of_docs}
use Rattle.wac_printer.proofs.printer.DocumentPrinter.world_include.Goals as goal

pub returns : goal.returns
returns g c = last c.and-6.ensures (after c.and-5.ensures (after c.and-4.ensures (after c.and-3.ensures (after c.and-2.ensures (after c.and.ensures (first (of_docs c.deref.ensures.value c.docs.ensures)) (printed_at (λ depth. line depth ∷ []) (c.docs.ensures.keeps.2) c.line.ensures)) c.token.ensures) c.blank.ensures) (printed_at (λ source. world_ref_layout (walk_world_ref (bare source) (world_ref_of c.args.include.now.world))) (c.blank.ensures.keeps.0 ∙ c.token.ensures.keeps.0 ∙ c.line.ensures.keeps.0 ∙ c.docs.ensures.keeps.0) c.world_ref.ensures)) (printed_at (λ xs. with_layout c.args.self.now.depth (map (walk_world_include_item (bare c.args.self.now.source)) (map world_include_item_of xs))) c.deref-2.ensures.value (there (λ source depth. with_layout depth (map (walk_world_include_item (bare source)) (map world_include_item_of c.deref-2.result.now))) (c.world_ref.ensures.keeps.0 ∙ c.blank.ensures.keeps.0 ∙ c.token.ensures.keeps.0 ∙ c.line.ensures.keeps.0 ∙ c.docs.ensures.keeps.0) (c.world_ref.ensures.keeps.2 ∙ c.blank.ensures.keeps.2 ∙ c.token.ensures.keeps.2 ∙ c.line.ensures.keeps.2 ∙ c.docs.ensures.keeps.2) c.with_items.ensures))) c.token-2.ensures
