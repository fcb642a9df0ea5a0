use Rattle.wac_graph.proofs.Common.{◌≡◌, ◌∙◌, Some, None, sym, ap, subst, slice_get, IfSome, instance_exports, look_up, Names, instance_exports_named, found_named, each_entry_named}
use Rattle.wac_graph_types.specs.declared.kind.ItemKind.TheVariants as kinds
use Rattle.wac_graph.specs.Graph.{Parts, export_kind}
use Rattle.wac_graph.proofs.Exported.{each_named, no_exports, exported_is}
use Rattle.wac_graph.proofs.graph.CompositionGraph.export_kind.Goals as goal

pub returns-in-Instance-clause-named : goal.returns-in-Instance-clause-named
returns-in-Instance-clause-named c =
    let before : Parts = record { types = c.self.inside.types; packages = c.self.inside.packages; nodes = c.self.inside.nodes.items; imports = c.self.inside.imports; exports = c.self.inside.exports } in
    let exports = instance_exports before.types (kinds.Instance c.in-Instance.id) in
    subst (λ (g : Parts). IfSome c.export.result (Names g.types)) c.self.view_is
    (each_named before.types c.export.result (look_up c.args.export.now exports) c.export.ensures
    (λ k is. found_named before.types c.args.export.now exports k (instance_exports_named before.types (each_entry_named before.types c.self.invariant.table) (kinds.Instance c.in-Instance.id)) is))

pub returns-in_default : goal.returns-in_default
returns-in_default c =
    let before : Parts = record { types = c.self.inside.types; packages = c.self.inside.packages; nodes = c.self.inside.nodes.items; imports = c.self.inside.imports; exports = c.self.inside.exports } in
    let at : slice_get before.nodes c.args.node.0 ≡ Some c.in_ok-get.field-0.now = sym c.in_ok-get.ensures in
    let none : None ≡ export_kind before c.args.node.0 c.args.export.now = sym (exported_is before c.args.node.0 c.in_ok-get.field-0.now c.args.export.now at ∙ ap (look_up c.args.export.now) (no_exports before.types c.in_ok-get.field-0.now.kind (λ id is. c.in_default.not-Instance id (c.kind.ensures ∙ is)))) in
    record { kind = subst (λ (g : Parts). None ≡ export_kind g c.args.node.0 c.args.export.now) c.self.view_is none; named = tt }
