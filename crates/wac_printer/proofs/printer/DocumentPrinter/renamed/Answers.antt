use Rattle.wac_ast_grammar.specs.Walk.{walk_extern_name}
use Rattle.wac_printer_layout.specs.Bare.{bare}
use Rattle.wac_printer.proofs.Common.{extern_name_of, first, last, printed_at, ◌∙◌, extern_name_layout}
use Rattle.wac_printer_pieces.proofs.Sequence.{after}
use Rattle.wac_printer.proofs.printer.DocumentPrinter.renamed.Goals as goal

pub returns : goal.returns
returns g c = last c.and-3.ensures (after c.and-2.ensures (after c.and.ensures (first c.blank.ensures) c.token.ensures) c.blank-2.ensures) (printed_at (λ source. extern_name_layout (walk_extern_name (bare source) (extern_name_of c.args.name.now))) (c.blank-2.ensures.keeps.0 ∙ c.token.ensures.keeps.0 ∙ c.blank.ensures.keeps.0) c.extern_name.ensures)
