-- The scope at root: each name denotes a node and, where types are resolved, the node's kind.
use Rattle.std.specs.Prelude.{◌≡◌, ◌<◌, ℕ, List, [], ◌∷◌, map, length, Some}
use Rattle.wac_lexer.specs.Span.{Span}
use Rattle.wac_ast_grammar.specs.Tree.{Ident}
use Rattle.wac_graph_types.specs.declared.kind.ItemKind.{ItemKind}
use Rattle.wac_graph_types.specs.Scope.{Named, IsFresh, StandsFor, with_named}
use Rattle.wac_graph.specs.declared.node.NodeId.{NodeId}
use Rattle.wac_graph.specs.Graph.{Parts}
use Rattle.wac_graph.specs.Origin.{Numbering}
use Rattle.wac_resolution_rules.specs.Composition.{Composition, binding}
use Rattle.wac_resolution_state.specs.Bindings.{Bindings, places_of}
use Rattle.wac_resolution_state.specs.declared.root.Root.{Root}
use Rattle.wac_resolution_state.specs.Nodes.{composition_of, kind_in, NodesStand}
use Rattle.wac_resolution_state.specs.NodeGrowth.{GrowsNodes}

-- the number of the node that each name denotes
abbrev pub numbers_of : Bindings NodeId → Named ℕ
numbers_of all = map (λ b. (b.0, b.1.1.0)) all

-- the composition, with what is bound at root
abbrev pub composed : Numbering → Parts → Root → Composition
composed numbering g root = composition_of numbering g (numbers_of root.nodes)

-- where each name was bound
abbrev pub places : Root → Named Span
places root = places_of root.nodes

-- one name: at one place it denotes a node and the node's kind
pub record Agree (g : Parts) (n : List ℕ × (Span × NodeId)) (k : List ℕ × (Span × ItemKind)) : Type 0 where
  pub name : k.0 ≡ n.0
  pub place : k.1.0 ≡ n.1.0
  pub kind : kind_in g.nodes n.1.1.0 ≡ Some k.1.1

-- each name, in order
abbrev pub EachAgrees : Parts → Bindings NodeId → Bindings ItemKind → Type 0
EachAgrees g [] [] = Unit {0}
EachAgrees g [] (k ∷ ks) = ⊥
EachAgrees g (n ∷ ns) [] = ⊥
EachAgrees g (n ∷ ns) (k ∷ ks) = Agree g n k × EachAgrees g ns ks

-- the names at root denote nodes of the graph and their kinds
pub record Agrees (g : Parts) (root : Root) : Type 0 where
  pub nodes : NodesStand g
  pub names : EachAgrees g root.nodes root.kinds

-- the identifier is new, and is bound to the node, which has its name where it had none
pub record Binds (old new : Parts) (before after : Root) (x : Ident) (node : ℕ) : Type 0 where
  pub fresh : IsFresh x.string (numbers_of before.nodes)
  pub grows : GrowsNodes old new
  pub agrees : Agrees new after
  pub is : (numbering : Numbering) → composed numbering new after ≡ binding (composed numbering old before) x.string node
  pub places : places after ≡ with_named (places before) x.string x.span

-- the identifier denotes the node, which exists in each graph that the names agree with
pub record NodeIs (root : Root) (x : Ident) (node : NodeId) : Type 0 where
  pub is : StandsFor (numbers_of root.nodes) x.string node.0
  pub there : (g : Parts) → Agrees g root → node.0 < length g.nodes
