-- What is read of the nodes of a composition, and the nodes that are added.
use Rattle.std.specs.Prelude.{ℕ, List, [], ◌∷◌, ◌++◌, Option, Some, None, option_map, unwrap_or, length, slice_get, Bool, true, false, ◌&&◌, nat_eq, filter_map}
use Rattle.std.specs.List.{position}
use Rattle.std.specs.Str.{bytes_eq}
use Rattle.wac_graph_types.specs.Meaning.{Meaning}
use Rattle.wac_graph_types.specs.Scope.{Named}
use Rattle.wac_graph.specs.Package.{Key}
use Rattle.wac_resolution_rules.specs.Kinds.{instance_of}
use Rattle.wac_resolution_rules.specs.Composition.{NodeForm, imported, definition, aliased, instantiated, Node, Composition, kind_at, with_node}

-- ---- what is read

-- the number of the node that comes next
abbrev pub next_of : Composition → ℕ
next_of c = length c.nodes

abbrev pub node_at : Composition → ℕ → Option Node
node_at c i = slice_get c.nodes i

-- the interface of the instance that a node is
abbrev pub instance_at : Composition → ℕ → Option Meaning
instance_at c i = instance_of (kind_at c.nodes i)

abbrev pub import_name : NodeForm → Option (List ℕ)
import_name (imported name) = Some name
import_name _ = None

-- the name of the export whose alias a node is
abbrev pub alias_name : NodeForm → Option (List ℕ)
alias_name (aliased node name) = Some name
alias_name _ = None

abbrev pub is_definition : NodeForm → Bool
is_definition definition = true
is_definition _ = false

-- the package that a node is an instance of
abbrev pub key_of_node : NodeForm → Option Key
key_of_node (instantiated key) = Some key
key_of_node _ = None

abbrev pub is_alias_of : ℕ → List ℕ → NodeForm → Bool
is_alias_of node name (aliased n other) = nat_eq n node && bytes_eq other name
is_alias_of node name _ = false

-- the imports are read off the nodes: each name and the kind of its node
abbrev pub import_of : Node → Option (List ℕ × Meaning)
import_of n = option_map (λ name. (name, n.kind)) (import_name n.form)

abbrev pub imports : Composition → Named Meaning
imports c = filter_map import_of c.nodes

-- the node that is the alias of an export of a node, where there is one
abbrev pub alias_in : Composition → ℕ → List ℕ → Option ℕ
alias_in c node name = position (λ n. is_alias_of node name n.form) c.nodes

-- its number: that of the existing one, else the next
abbrev pub alias_number : Composition → ℕ → List ℕ → ℕ
alias_number c node name = unwrap_or (alias_in c node name) (next_of c)

-- ---- what is added

-- the alias of an export of a node, unless it exists already
abbrev pub with_alias : Composition → ℕ → List ℕ → Meaning → Composition
with_alias c node name k = elim (alias_in c node name) [ None ↦ with_node c (aliased node name) k | Some n ↦ c ]

-- an instance of a package with its arguments
abbrev pub with_instance : Composition → Key → Meaning → Named ℕ → Composition
with_instance c key k arguments = record c
    { nodes = c.nodes ++ record { form = instantiated key; kind = k; name = None; arguments = arguments } ∷ [] }
