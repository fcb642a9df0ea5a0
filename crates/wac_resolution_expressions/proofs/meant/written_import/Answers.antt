use Rattle.wac_resolution_expressions.proofs.Common.{◌∙◌, List, [], ap, option_map, unwrap_or, Entry, by_name, world_imports, argument_name_of}
use Rattle.wac_resolution_expressions.proofs.Imports.{written_here}
use Rattle.wac_resolution_expressions.proofs.meant.written_import.Goals as goal

pub returns : goal.returns
returns c =
    written_here c.args.state.now.graph c.args.world (argument_name_of c.args.name.now) c.meant.result.now (unwrap_or (option_map (λ m. by_name m.now.entries) c.imports-imports.result) [])
    c.types-types.ensures.means c.requires (c.imports-imports.ensures ∙ ap (λ (es : List Entry). world_imports es c.args.world.0) c.types-types.ensures.types) c.meant.ensures
