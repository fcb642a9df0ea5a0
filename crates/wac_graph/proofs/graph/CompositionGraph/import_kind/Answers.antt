use Rattle.wac_graph.proofs.Common.{◌≡◌, ◌∙◌, ℕ, List, Option, Some, None, sym, ap, subst, slice_get, option_and_then, IfSome, ItemKind, world_imports, look_up, Names, IsTable}
use Rattle.wac_graph.specs.Graph.{Parts, import_kind}
use Rattle.wac_graph.specs.Package.{HeldPackage}
use Rattle.wac_graph.specs.Readings.{held_of}
use Rattle.wac_graph.proofs.Exported.{import_kind_names}
use Rattle.wac_graph.proofs.graph.CompositionGraph.import_kind.Goals as goal

named : (g : Parts) (p : ℕ) (name : List ℕ) (r : Option ItemKind) → IsTable g.types → r ≡ import_kind g p name → IfSome r (Names g.types)
named g p name None table is = tt
named g p name (Some k) table is = import_kind_names g p name k table (sym is)

pub returns-clause-kind : goal.returns-clause-kind
returns-clause-kind c =
    let before : Parts = record { types = c.self.inside.types; packages = c.self.inside.packages; nodes = c.self.inside.nodes.items; imports = c.self.inside.imports; exports = c.self.inside.exports } in
    let at : slice_get before.packages c.args.id.0 ≡ Some (held_of c.get.result) = c.get.ensures in
    c.import.ensures
    ∙ ap (λ (o : Option HeldPackage). option_and_then (λ (h : HeldPackage). look_up c.args.name.now (world_imports before.types h.world.0)) o) (sym at)
    ∙ ap (λ (g : Parts). import_kind g c.args.id.0 c.args.name.now) c.self.view_is

pub returns-clause-named : goal.returns-clause-named
returns-clause-named c =
    let before : Parts = record { types = c.self.inside.types; packages = c.self.inside.packages; nodes = c.self.inside.nodes.items; imports = c.self.inside.imports; exports = c.self.inside.exports } in
    let at : slice_get before.packages c.args.id.0 ≡ Some (held_of c.get.result) = c.get.ensures in
    subst (λ (g : Parts). IfSome c.import.result (Names g.types)) c.self.view_is (named before c.args.id.0 c.args.name.now c.import.result c.self.invariant.table
    (c.import.ensures
    ∙ ap (λ (o : Option HeldPackage). option_and_then (λ (h : HeldPackage). look_up c.args.name.now (world_imports before.types h.world.0)) o) (sym at)))
