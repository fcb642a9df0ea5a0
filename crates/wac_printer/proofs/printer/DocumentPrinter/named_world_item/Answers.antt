use Rattle.wac_ast_grammar.specs.Walk.{walk_extern_type}
use Rattle.wac_printer.proofs.Common.{first, last, there, extern_type_of, ◌∙◌}
use Rattle.wac_printer_layout.specs.Bare.{doc_lines, bare}
use Rattle.wac_printer_layout.specs.WorldLayout.{extern_type_layout}
use Rattle.wac_printer_pieces.proofs.Sequence.{after}
use Rattle.wac_printer.proofs.printer.DocumentPrinter.named_world_item.Goals as goal

pub returns : goal.returns
returns g c = last c.and-3.ensures (after c.and-2.ensures (after c.and.ensures (first c.ident.ensures) c.token.ensures) c.blank.ensures) (there (λ source depth. extern_type_layout depth (walk_extern_type (bare source) doc_lines (extern_type_of c.args.item.now.ty))) (c.blank.ensures.keeps.0 ∙ c.token.ensures.keeps.0 ∙ c.ident.ensures.keeps.0) (c.blank.ensures.keeps.2 ∙ c.token.ensures.keeps.2 ∙ c.ident.ensures.keeps.2) c.extern_type.ensures)
