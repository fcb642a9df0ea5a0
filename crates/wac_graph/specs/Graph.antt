-- The parts of a composition's graph.
use Rattle.std.specs.Prelude.{ℕ, List, [], ◌∷◌, ◌++◌, Option, Some, None, option_map, option_and_then, length, slice_get, slice_set}
use Rattle.std.specs.List.{position}
use Rattle.wac_graph_types.specs.declared.kind.ItemKind.{ItemKind}
use Rattle.wac_graph_types.specs.declared.entry.Entry.{Entry}
use Rattle.wac_graph_types.specs.Package.{PackageParts}
use Rattle.wac_graph_types.specs.Readings.{instance_exports, world_imports}
use Rattle.wac_graph_types.specs.Scope.{Named, look_up, with_named}
use Rattle.wac_graph.specs.Package.{Key, HeldPackage, moved_package}
use Rattle.wac_graph.specs.Node.{Node, Form, import, definition, alias, instantiation, is_alias_of, package_in, arguments_in}

-- what a graph holds
pub record Parts : Type 0 where
  pub types : List Entry
  pub packages : List HeldPackage
  pub nodes : List Node
  pub imports : Named ℕ
  pub exports : Named ℕ

-- a graph of these parts
abbrev pub graph_of : List Entry → List HeldPackage → List Node → Named ℕ → Named ℕ → Parts
graph_of types packages nodes imports exports = record {
  types = types;
  packages = packages;
  nodes = nodes;
  imports = imports;
  exports = exports;
}

abbrev pub empty : Parts
empty = record { types = []; packages = []; nodes = []; imports = []; exports = [] }

-- ---- what is read of it

-- the node that is the alias of an export of a node, if it exists
abbrev pub alias_in : List Node → ℕ → List ℕ → Option ℕ
alias_in ns node export = position (λ (n : Node). is_alias_of node export n.form) ns

-- what a node exports under a name, if it is an instance
abbrev pub export_kind : Parts → ℕ → List ℕ → Option ItemKind
export_kind g node name = option_and_then (λ (n : Node). look_up name (instance_exports g.types n.kind)) (slice_get g.nodes node)

-- what a package imports under a name
abbrev pub import_kind : Parts → ℕ → List ℕ → Option ItemKind
import_kind g p name = option_and_then (λ (h : HeldPackage). look_up name (world_imports g.types h.world.0)) (slice_get g.packages p)

-- the package that a node is an instance of
abbrev pub package_of : Parts → ℕ → Option ℕ
package_of g node = option_and_then (λ (n : Node). package_in n.form) (slice_get g.nodes node)

-- what an instance imports under a name
abbrev pub parameter_kind : Parts → ℕ → List ℕ → Option ItemKind
parameter_kind g node name = option_and_then (λ p. import_kind g p name) (package_of g node)

-- the arguments of a node
abbrev pub arguments_of : Parts → ℕ → Named ℕ
arguments_of g node = elim (slice_get g.nodes node) [ None ↦ [] | Some n ↦ arguments_in n.form ]

-- what is read of the form of a node
abbrev pub read_form : {X : Type 0} → (Form → X) → Parts → ℕ → Option X
read_form read g node = option_map (λ (n : Node). read n.form) (slice_get g.nodes node)

-- the name of a package's import in a place
abbrev pub import_in_place : Parts → ℕ → ℕ → Option (List ℕ)
import_in_place g p at = option_map (λ (e : List ℕ × ItemKind). e.0)
    (option_and_then (λ (h : HeldPackage). slice_get (world_imports g.types h.world.0) at) (slice_get g.packages p))

-- ---- what is added

abbrev pub with_entry : Parts → Entry → Parts
with_entry g e = record g { types = g.types ++ e ∷ [] }

abbrev pub plain_node : Form → ItemKind → Node
plain_node f k = record { form = f; kind = k; name = None }

-- a node that is imported under a name
abbrev pub with_import : Parts → List ℕ → ItemKind → Parts
with_import g name k = record g { nodes = g.nodes ++ plain_node (import name) k ∷ []; imports = g.imports ++ (name, length g.nodes) ∷ [] }

-- a type that is exported under a name
abbrev pub with_definition : Parts → List ℕ → ItemKind → Parts
with_definition g name k = record g { nodes = g.nodes ++ plain_node definition k ∷ []; exports = g.exports ++ (name, length g.nodes) ∷ [] }

abbrev pub with_export : Parts → List ℕ → ℕ → Parts
with_export g name node = record g { exports = g.exports ++ (name, node) ∷ [] }

abbrev pub with_alias : Parts → ℕ → List ℕ → ItemKind → Parts
with_alias g node export k = record g { nodes = g.nodes ++ plain_node (alias node export) k ∷ [] }

-- an instance of a package, without arguments
abbrev pub with_instantiation : Parts → ℕ → ItemKind → Parts
with_instantiation g p k = record g { nodes = g.nodes ++ plain_node (instantiation p []) k ∷ [] }

abbrev pub changed : Parts → ℕ → (Node → Node) → Parts
changed g node f = record g { nodes = elim (slice_get g.nodes node) [ None ↦ g.nodes | Some n ↦ slice_set g.nodes node (f n) ] }

-- a node that has this name
abbrev pub node_named : List ℕ → Node → Node
node_named name n = record n { name = Some name }

abbrev pub with_name : Parts → ℕ → List ℕ → Parts
with_name g node name = changed g node (node_named name)

-- one more argument of an instantiation
abbrev pub given_too : Form → List ℕ → ℕ → Form
given_too (instantiation p arguments) name value = instantiation p (with_named arguments name value)
given_too f name value = f

-- a node with one more argument, if it is an instantiation
abbrev pub node_given : List ℕ → ℕ → Node → Node
node_given name value n = record n { form = given_too n.form name value }

abbrev pub with_argument : Parts → ℕ → List ℕ → ℕ → Parts
with_argument g node name value = changed g node (node_given name value)

-- a package whose types were copied in, which made this table
abbrev pub with_package : Parts → Key → PackageParts → List Entry → Parts
with_package g key p types = record g { types = types; packages = g.packages ++ moved_package (length g.types) key p ∷ [] }
