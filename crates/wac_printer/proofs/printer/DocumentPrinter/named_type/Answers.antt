use Rattle.wac_ast_grammar.specs.Walk.{walk_ty}
use Rattle.wac_printer_layout.specs.Bare.{bare}
use Rattle.wac_printer.proofs.Common.{first, last, printed_at, ◌∙◌, ty_of, ty_layout}
use Rattle.wac_printer_pieces.proofs.Sequence.{after}
use Rattle.wac_printer.proofs.printer.DocumentPrinter.named_type.Goals as goal

pub returns : goal.returns
returns g c = last c.and-3.ensures (after c.and-2.ensures (after c.and.ensures (first c.ident.ensures) c.token.ensures) c.blank.ensures) (printed_at (λ source. ty_layout (walk_ty (bare source) (ty_of c.args.named.now.ty))) (c.blank.ensures.keeps.0 ∙ c.token.ensures.keeps.0 ∙ c.ident.ensures.keeps.0) c.ty.ensures)
