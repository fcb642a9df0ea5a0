use Rattle.wac_ast_grammar.specs.Walk.{walk_ty}
use Rattle.wac_printer_layout.specs.Bare.{bare}
use Rattle.wac_printer.proofs.Common.{first, last, printed_at, option_map, sym, payload_layout, ty_of, ty_layout}
use Rattle.wac_printer_pieces.proofs.Sequence.{after}
use Rattle.wac_printer.proofs.printer.DocumentPrinter.payload.Goals as goal

pub returns-in-Some : goal.returns-in-Some
returns-in-Some g c = printed_at (λ z. payload_layout (option_map (walk_ty (bare c.args.self.now.source)) (option_map ty_of z))) (sym c.in-Some.is)
    (last c.and-in-Some.ensures (after c.and.ensures (first c.token.ensures) (printed_at (λ source. ty_layout (walk_ty (bare source) (ty_of c.in-Some.ty))) (c.token.ensures.keeps.0) c.ty.ensures)) c.token-in-Some.ensures)

pub returns-in-None : goal.returns-in-None
returns-in-None g c = printed_at (λ z. payload_layout (option_map (walk_ty (bare c.args.self.now.source)) (option_map ty_of z))) (sym c.in-None.is) c.ready.ensures
