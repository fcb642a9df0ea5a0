use Rattle.wac_graph.proofs.Common.{◌≡◌, ◌∙◌, ℕ, List, Option, Some, None, sym, ap, subst, IfSome, ItemKind, Entry, kind_exports, look_up, Names, IsTable, found_named, kind_exports_named, each_entry_named}
use Rattle.wac_graph.specs.Graph.{Parts}
use Rattle.wac_graph.specs.Sound.{IsSound}
use Rattle.wac_graph.proofs.Origins.{export_means}
use Rattle.wac_graph.proofs.graph.CompositionGraph.export.Goals as goal

named : (es : List Entry) (m : ItemKind) (name : List ℕ) (r : Option ItemKind) → IsTable es → r ≡ look_up name (kind_exports es m) → IfSome r (Names es)
named es m name None table is = tt
named es m name (Some k) table is = found_named es name (kind_exports es m) k (kind_exports_named es (each_entry_named es table) m) (sym is)

pub returns-clause-means : goal.returns-clause-means
returns-clause-means c = λ numbering. export_means numbering c.args.self.now c.args.kind c.args.name.now c.export.result (subst IsSound c.self.view_is c.self.invariant) c.requires
    (c.export.ensures ∙ ap (λ (g : Parts). look_up c.args.name.now (kind_exports g.types c.args.kind)) c.self.view_is)

pub returns-clause-named : goal.returns-clause-named
returns-clause-named c =
    subst (λ (g : Parts). IfSome c.export.result (Names g.types)) c.self.view_is (named c.self.inside.types c.args.kind c.args.name.now c.export.result c.self.invariant.table c.export.ensures)
