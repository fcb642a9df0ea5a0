use Rattle.std.proofs.Common.{sym, subst, ◌∙◌, ap, Option}
use Rattle.std.specs.Prelude.{IfSome}
use Rattle.wac_graph_types.specs.declared.kind.ItemKind.{ItemKind}
use Rattle.wac_graph_types.specs.Scope.{look_up}
use Rattle.wac_graph_types.specs.Table.{Names}
use Rattle.wac_vectors_component_rules.proofs.Definitions.{names_found}
use Rattle.wac_vectors_component_rules.proofs.tables.definition.Goals as goal

pub returns : goal.returns
returns c =
    subst (λ (o : Option ItemKind). IfSome o (Names c.args.owner.now.types))
    (sym (c.find.ensures ∙ ap (look_up c.args.name.now) c.definitions.ensures.definitions))
    (names_found c.args.owner.now.types c.args.name.now c.args.owner.now.definitions c.definitions.ensures.named)
