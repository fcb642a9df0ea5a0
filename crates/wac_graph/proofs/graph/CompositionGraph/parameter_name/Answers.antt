use Rattle.wac_graph.proofs.Common.{◌≡◌, ◌∙◌, List, ℕ, Option, Some, sym, ap, subst, slice_get, option_map, option_and_then, string_bytes, IfOk, ItemKind, world_imports}
use Rattle.wac_graph.specs.Graph.{Parts}
use Rattle.wac_graph.specs.Package.{HeldPackage}
use Rattle.wac_graph.specs.Readings.{held_of}
use Rattle.wac_graph.specs.Sound.{name_in}
use Rattle.wac_graph.proofs.graph.CompositionGraph.parameter_name.Goals as goal

pub returns : goal.returns
returns c =
    let before : Parts = record { types = c.self.inside.types; packages = c.self.inside.packages; nodes = c.self.inside.nodes.items; imports = c.self.inside.imports; exports = c.self.inside.exports } in
    let at : slice_get before.packages c.args.id.0 ≡ Some (held_of c.get.result) = c.get.ensures in
    let is = ap (λ (o : Option HeldPackage). option_and_then (λ (h : HeldPackage). slice_get (world_imports before.types h.world.0) c.args.at) o) (sym at)
    ∙ ap (λ (g : Parts). option_and_then (λ (h : HeldPackage). slice_get (world_imports g.types h.world.0) c.args.at) (slice_get g.packages c.args.id.0)) c.self.view_is in
    subst (λ (o : Option (List ℕ × ItemKind)). IfOk c.import_name.result (λ n. option_map string_bytes n ≡ option_map name_in o)) is c.import_name.ensures
