use Rattle.wac_ast_grammar.specs.Walk.{walk_world_item_path}
use Rattle.wac_printer.proofs.Common.{first, last, printed_at, there, [], ◌∙◌, ◌∷◌, line, world_item_path_of}
use Rattle.wac_printer_layout.specs.Bare.{doc_lines, bare}
use Rattle.wac_printer_layout.specs.WorldLayout.{world_item_path_layout}
use Rattle.wac_printer_pieces.proofs.Sequence.{after}
use Rattle.wac_printer.proofs.BareLists.{of_docs}
use Rattle.wac_printer.proofs.printer.DocumentPrinter.world_import.Goals as goal

pub returns : goal.returns
returns g c = last c.and-5.ensures (after c.and-4.ensures (after c.and-3.ensures (after c.and-2.ensures (after c.and.ensures (first (of_docs c.deref.ensures.value c.docs.ensures)) (printed_at (λ depth. line depth ∷ []) (c.docs.ensures.keeps.2) c.line.ensures)) c.token.ensures) c.blank.ensures) (there (λ source depth. world_item_path_layout depth (walk_world_item_path (bare source) doc_lines (world_item_path_of c.args.import.now.path))) (c.blank.ensures.keeps.0 ∙ c.token.ensures.keeps.0 ∙ c.line.ensures.keeps.0 ∙ c.docs.ensures.keeps.0) (c.blank.ensures.keeps.2 ∙ c.token.ensures.keeps.2 ∙ c.line.ensures.keeps.2 ∙ c.docs.ensures.keeps.2) c.world_item_path.ensures)) c.token-2.ensures
