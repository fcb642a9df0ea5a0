use Rattle.wac_printer.proofs.Common.{first, last, printed_at, [], sym, ◌∙◌, ◌∷◌, option_map, slice, bare_ident, ident_of, as_layout, token}
use Rattle.wac_printer_pieces.proofs.Sequence.{after}
use Rattle.wac_printer.proofs.printer.DocumentPrinter.as_ident.Goals as goal

pub returns-in-Some : goal.returns-in-Some
returns-in-Some g c = printed_at (λ z. as_layout (option_map (bare_ident c.args.self.now.source) (option_map ident_of z))) (sym c.in-Some.is)
    (last c.and-in-Some-2.ensures (after c.and-in-Some.ensures (after c.and.ensures (first c.blank.ensures) c.token.ensures) c.blank-in-Some.ensures) (printed_at (λ source. token (slice source c.in-Some.id.span) ∷ []) (c.blank-in-Some.ensures.keeps.0 ∙ c.token.ensures.keeps.0 ∙ c.blank.ensures.keeps.0) c.ident.ensures))

pub returns-in-None : goal.returns-in-None
returns-in-None g c = printed_at (λ z. as_layout (option_map (bare_ident c.args.self.now.source) (option_map ident_of z))) (sym c.in-None.is) c.ready.ensures
