-- The composition that a graph represents.
use Rattle.std.specs.Prelude.{ℕ, List, map, Option, Some, None, option_map, slice_get, IfSome, IsSome}
use Rattle.std.specs.List.{AllByRecursion}
use Rattle.wac_graph_types.specs.declared.kind.ItemKind.{ItemKind}
use Rattle.wac_graph_types.specs.Scope.{Named}
use Rattle.wac_graph_types.specs.Table.{Names}
use Rattle.wac_graph.specs.Package.{HeldPackage}
use Rattle.wac_graph.specs.Node.{Node as GraphNode, Form, import, definition as defined, alias, instantiation, package_in, arguments_in}
use Rattle.wac_graph.specs.Graph.{Parts}
use Rattle.wac_graph.specs.Means.{means, declared_count}
use Rattle.wac_graph.specs.Origin.{Numbering}
use Rattle.wac_resolution_rules.specs.Composition.{Composition, Node, NodeForm, imported, definition, aliased, instantiated}

-- an instance of a package has its key
abbrev pub instance_form : Option HeldPackage → NodeForm
instance_form None = definition
instance_form (Some p) = instantiated p.key

-- what a node of a graph with these packages is
abbrev pub form_in : List HeldPackage → Form → NodeForm
form_in ps (import name) = imported name
form_in ps defined = definition
form_in ps (alias node export) = aliased node export
form_in ps (instantiation p arguments) = instance_form (slice_get ps p)

-- a node, whose kind is what its kind means
abbrev pub node_of : Numbering → Parts → GraphNode → Node
node_of numbering g n = record {
  form = form_in g.packages n.form;
  kind = means numbering g n.kind;
  name = n.name;
  arguments = arguments_in n.form;
}

-- the composition, where these identifiers are bound to nodes at root
abbrev pub composition_of : Numbering → Parts → Named ℕ → Composition
composition_of numbering g declared = record {
  nodes = map (node_of numbering g) g.nodes;
  exports = g.exports;
  declared = declared;
  resources = declared_count g;
}

-- the kind of the node of a number, if there is one
abbrev pub kind_in : List GraphNode → ℕ → Option ItemKind
kind_in ns n = option_map (λ x. x.kind) (slice_get ns n)

-- a node's kind exists, and so does the package that it is an instance of
pub record Stands (g : Parts) (n : GraphNode) : Type 0 where
  pub kind : Names g.types n.kind
  pub held : IfSome (package_in n.form) (λ p. IsSome (slice_get g.packages p))

abbrev pub NodesStand : Parts → Type 0
NodesStand g = AllByRecursion (Stands g) g.nodes
