use Rattle.wac_resolution_expressions.proofs.Common.{◌∙◌, List, refl, ap, option_map, Entry, by_name, world_imports}
use Rattle.wac_resolution_expressions.specs.Arguments.{given_nodes}
use Rattle.wac_resolution_expressions.proofs.LeavingOut.{left_here}
use Rattle.wac_resolution_expressions.proofs.left_out.left_out.Goals as goal

pub returns-in-Some : goal.returns-in-Some
returns-in-Some c =
    left_here c.args.state.now.graph c.args.world (given_nodes (by_name c.args.given.now.entries)) (by_name c.in-Some.all.now.entries) (option_map (λ s. s.now) c.missing_import.result) c.types-types.ensures.means c.requires
    (c.in-Some.ensures ∙ ap (λ (es : List Entry). world_imports es c.args.world.0) c.types-types.ensures.types) c.missing_import.ensures

pub returns-in-None : goal.returns-in-None
returns-in-None c =
    left_here c.args.state.now.graph c.args.world (given_nodes (by_name c.args.given.now.entries)) _ _ c.types-types.ensures.means c.requires
    (c.in-None.ensures ∙ ap (λ (es : List Entry). world_imports es c.args.world.0) c.types-types.ensures.types) (λ f. refl)
