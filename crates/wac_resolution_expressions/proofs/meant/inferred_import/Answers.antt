use Rattle.wac_resolution_expressions.proofs.Common.{◌∙◌, List, ap, option_map, Entry, by_name, world_imports}
use Rattle.wac_resolution_expressions.proofs.Imports.{inferred_here, inferred_nowhere}
use Rattle.wac_resolution_expressions.proofs.meant.inferred_import.Goals as goal

pub returns-in-Some : goal.returns-in-Some
returns-in-Some c =
    inferred_here c.args.state.now.graph c.args.world c.args.node.0 c.args.name.now c.inferred.result.now (option_map (λ s. s.now) c.instance_id-id.result) (option_map (λ s. s.now) c.own_name-own.result) (by_name c.in-Some.all.now.entries)
    c.types-types.ensures.means c.requires.named c.requires.there (c.in-Some.ensures ∙ ap (λ (es : List Entry). world_imports es c.args.world.0) c.types-types.ensures.types) c.instance_id-id.ensures c.own_name-own.ensures c.inferred.ensures

pub returns-in-None : goal.returns-in-None
returns-in-None c =
    inferred_nowhere c.args.state.now.graph c.args.world c.args.node.0 c.args.name.now c.types-types.ensures.means c.requires.named c.requires.there (c.in-None.ensures ∙ ap (λ (es : List Entry). world_imports es c.args.world.0) c.types-types.ensures.types)
