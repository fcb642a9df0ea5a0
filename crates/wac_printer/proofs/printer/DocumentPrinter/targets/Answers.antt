use Rattle.wac_printer.proofs.Common.{first, last, printed_at, package_path_of, [], sym, ◌∙◌, ◌∷◌, bare_package_path, option_map, targets_layout, slice, token}
use Rattle.wac_printer_pieces.proofs.Sequence.{after}
use Rattle.wac_printer.proofs.printer.DocumentPrinter.targets.Goals as goal

pub returns-in-Some : goal.returns-in-Some
returns-in-Some g c = printed_at (λ z. targets_layout (option_map (bare_package_path c.args.self.now.source) (option_map package_path_of z))) (sym c.in-Some.is)
    (last c.and-in-Some-2.ensures (after c.and-in-Some.ensures (after c.and.ensures (first c.blank.ensures) c.token.ensures) c.blank-in-Some.ensures) (printed_at (λ source. token (slice source c.in-Some.path.span) ∷ []) (c.blank-in-Some.ensures.keeps.0 ∙ c.token.ensures.keeps.0 ∙ c.blank.ensures.keeps.0) c.package_path.ensures))

pub returns-in-None : goal.returns-in-None
returns-in-None g c = printed_at (λ z. targets_layout (option_map (bare_package_path c.args.self.now.source) (option_map package_path_of z))) (sym c.in-None.is) c.ready.ensures
