use Rattle.wac_printer.proofs.Common.{first, last, printed_at, package_path_of, [], ◌∙◌, ◌∷◌, option_map, bare_package_path, targets_layout, slice, token}
use Rattle.wac_printer_pieces.proofs.Sequence.{after}
use Rattle.wac_printer.proofs.printer.DocumentPrinter.package_directive.Goals as goal

pub returns : goal.returns
returns g c = last c.and-7.ensures (after c.and-6.ensures (after c.and-5.ensures (after c.and-4.ensures (after c.and-3.ensures (after c.and-2.ensures (after c.and.ensures (first c.line.ensures) c.token.ensures) c.blank.ensures) (printed_at (λ source. token (slice source c.args.directive.now.«package».span) ∷ []) (c.blank.ensures.keeps.0 ∙ c.token.ensures.keeps.0 ∙ c.line.ensures.keeps.0) c.package_name.ensures)) (printed_at (λ source. targets_layout (option_map (bare_package_path source) (option_map package_path_of c.args.directive.now.targets))) (c.package_name.ensures.keeps.0 ∙ c.blank.ensures.keeps.0 ∙ c.token.ensures.keeps.0 ∙ c.line.ensures.keeps.0) c.targets.ensures)) c.token-2.ensures) c.blank-2.ensures) c.blank-3.ensures
