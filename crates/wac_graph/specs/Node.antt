-- The parts of a node.
use Rattle.std.specs.Prelude.{◌≡◌, ◌<◌, IsSome, ℕ, List, [], Option, Some, None, option_map, string_bytes, Bool, false, ◌&&◌, String, nat_eq}
use Rattle.std.specs.declared.alloc.Global.{Global}
use Rattle.std.specs.Str.{bytes_eq}
use Rattle.wac_graph_types.specs.Scope.{Named}
use Rattle.wac_graph_types.specs.declared.kind.ItemKind.{ItemKind}
use Rattle.wac_graph.specs.declared.node.NodeId.{NodeId}
use Rattle.wac_graph.specs.declared.node.NodeKind.{NodeKind}
use Rattle.wac_graph.specs.declared.node.NodeKind.TheVariants as nodes

-- what a node is, with its edges: an import has its name, an alias the node and the export that it is of, and an
-- instantiation the package, and names of its imports with the nodes that were given for them
pub data Form : Type 0 where
  import : List ℕ → Form
  definition : Form
  alias : ℕ → List ℕ → Form
  instantiation : ℕ → Named ℕ → Form

pub record Node : Type 0 where
  pub form : Form
  pub kind : ItemKind
  pub name : Option (List ℕ)

-- ---- what is read of it

abbrev pub import_in : Form → Option (List ℕ)
import_in (import name) = Some name
import_in _ = None

-- the node and the export that a node is an alias of
abbrev pub source_in : Form → Option (ℕ × List ℕ)
source_in (alias node export) = Some (node, export)
source_in _ = None

-- the package that a node is an instance of
abbrev pub package_in : Form → Option ℕ
package_in (instantiation p arguments) = Some p
package_in _ = None

abbrev pub arguments_in : Form → Named ℕ
arguments_in (instantiation p arguments) = arguments
arguments_in _ = []

-- whether a node is the alias of that export of that node
abbrev pub is_alias_of : ℕ → List ℕ → Form → Bool
is_alias_of node export (alias n e) = nat_eq n node && bytes_eq e export
is_alias_of node export _ = false

-- what a node is, without its edges
pub data Sort : Type 0 where
  imported : List ℕ → Sort
  defined aliased : Sort
  instantiated : ℕ → Sort

abbrev pub sort_in : Form → Sort
sort_in (import name) = imported name
sort_in definition = defined
sort_in (alias node export) = aliased
sort_in (instantiation p arguments) = instantiated p

abbrev pub sort_of : NodeKind → Sort
sort_of (nodes.Import name) = imported (string_bytes name)
sort_of nodes.Definition = defined
sort_of nodes.Alias = aliased
sort_of (nodes.Instantiation p) = instantiated p.0

-- the package of an instance is one of so many
abbrev pub HasPackage : ℕ → Sort → Type 0
HasPackage packages (instantiated p) = p < packages
HasPackage packages _ = Unit {0}

-- ---- how it is held

abbrev pub alias_from : Option (NodeId × String Global) → Form
alias_from None = definition
alias_from (Some s) = alias s.0.0 (string_bytes s.1)

abbrev pub form_of : NodeKind → Option (NodeId × String Global) → Named ℕ → Form
form_of (nodes.Import name) source arguments = import (string_bytes name)
form_of nodes.Definition source arguments = definition
form_of nodes.Alias source arguments = alias_from source
form_of (nodes.Instantiation p) source arguments = instantiation p.0 arguments

-- a node of this form
abbrev pub held_node : Form → ItemKind → Option (String Global) → Node
held_node form kind name = record { form = form; kind = kind; name = option_map string_bytes name }

-- an alias alone has a source, and an instantiation alone has arguments
abbrev pub IsHeldAs : NodeKind → Option (NodeId × String Global) → Named ℕ → Type 0
IsHeldAs (nodes.Import name) source arguments = (source ≡ None) × (arguments ≡ [])
IsHeldAs nodes.Definition source arguments = (source ≡ None) × (arguments ≡ [])
IsHeldAs nodes.Alias source arguments = IsSome source × (arguments ≡ [])
IsHeldAs (nodes.Instantiation p) source arguments = source ≡ None
