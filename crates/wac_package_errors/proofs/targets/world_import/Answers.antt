use Rattle.std.proofs.Common.{◌∙◌, List, Option, sym, ap, subst}
use Rattle.std.specs.Prelude.{IfSome}
use Rattle.wac_graph_types.specs.declared.entry.Entry.{Entry}
use Rattle.wac_graph_types.specs.declared.kind.ItemKind.{ItemKind}
use Rattle.wac_graph_types.specs.Readings.{world_imports}
use Rattle.wac_graph_types.specs.Scope.{look_up}
use Rattle.wac_graph_types.specs.Table.{Names}
use Rattle.wac_package_errors.proofs.EntriesNamed.{import_named}
use Rattle.wac_package_errors.proofs.targets.world_import.Goals as goal

pub returns : goal.returns
returns c =
    subst (λ (o : Option ItemKind). IfSome o (Names c.args.graph.now.types)) (sym (c.import.ensures ∙ ap (λ (es : List Entry). look_up c.args.name.now (world_imports es c.args.world.0)) c.types-types.ensures.types))
    (import_named c.args.graph.now.types c.args.world.0 c.args.name.now c.types-types.ensures.entries)
