-- Nodes as a graph holds them.
use Rattle.std.specs.Prelude.{◌≡◌, ◌-◌, ℕ, List, [], Some, None, unwrap_or, length, slice_get, slice_set, Vec, vec_len, vec_capacity}
use Rattle.wac_graph_types.specs.Scope.{Named, look_up}
use Rattle.wac_graph.specs.Node.{Node, arguments_in}
use Rattle.wac_graph.specs.Graph.{alias_in}

-- nodes in order, and how many more there is room for
pub record NodeList : Type 0 where
  pub items : List Node
  pub room : ℕ

-- how many more elements fit without more memory
abbrev pub room_in : {X Z : Type 0} → Vec X Z → ℕ
room_in v = vec_capacity v - vec_len v

-- the aliases of a node, by export
abbrev pub aliases_at : List (Named ℕ) → ℕ → Named ℕ
aliases_at all node = unwrap_or (slice_get all node) []

-- each alias is found under its node and its export, and nothing else is
pub record AreIndexed (ns : List Node) (all : List (Named ℕ)) : Type 0 where
  pub each : length all ≡ length ns
  pub found : (node : ℕ) (export : List ℕ) → look_up export (aliases_at all node) ≡ alias_in ns node export

-- the arguments of a node
abbrev pub arguments_at : List Node → ℕ → Named ℕ
arguments_at ns node = elim (slice_get ns node) [ None ↦ [] | Some n ↦ arguments_in n.form ]

-- with a node that is changed in its place
abbrev pub changed_in : List Node → ℕ → (Node → Node) → List Node
changed_in ns node f = elim (slice_get ns node) [ None ↦ ns | Some n ↦ slice_set ns node (f n) ]
