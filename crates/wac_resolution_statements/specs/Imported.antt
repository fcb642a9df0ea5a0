-- What a graph imports: its import nodes, and what each instance of a package leaves open.
use Rattle.std.specs.Prelude.{ℕ, List, [], Some, None, is_none, filter, slice_get}
use Rattle.wac_graph_types.specs.declared.kind.ItemKind.{ItemKind}
use Rattle.wac_graph_types.specs.Readings.{world_imports}
use Rattle.wac_graph_types.specs.Scope.{Named, look_up}
use Rattle.wac_graph.specs.Graph.{Parts, package_of, arguments_of}
use Rattle.wac_graph.specs.Means.{means}
use Rattle.wac_resolution_state.specs.Nodes.{composition_of}
use Rattle.wac_resolution_rules.specs.Composition.{kind_at}
use Rattle.wac_resolution_statements.specs.Testing.{Import}

-- a name, and the node that is imported or exported under it
abbrev pub of_node : Parts → List ℕ × ℕ → Import
of_node g x numbering = (x.0, kind_at (composition_of numbering g []).nodes x.1)

-- a name, and a kind
abbrev pub of_kind : Parts → List ℕ × ItemKind → Import
of_kind g x numbering = (x.0, means numbering g x.1)

-- those for which there is no argument
abbrev pub left_open : Named ℕ → Named ItemKind → Named ItemKind
left_open arguments imports = filter (λ x. is_none (look_up x.0 arguments)) imports

-- what a package imports
abbrev pub package_imports : Parts → ℕ → Named ItemKind
package_imports g p = elim (slice_get g.packages p) [ None ↦ [] | Some h ↦ world_imports g.types h.world.0 ]

-- what the node of a number leaves open, if it is an instance of a package
abbrev pub open_at : Parts → ℕ → Named ItemKind
open_at g n = elim (package_of g n) [ None ↦ [] | Some p ↦ left_open (arguments_of g n) (package_imports g p) ]
