-- What is read of a graph stays through each building call.
use Rattle.wac_graph.proofs.Common.{◌≡◌, ℕ, Option, Some, None, List, [], length, refl, slice_get, slice_set, ItemKind, Entry, PackageParts}
use Rattle.wac_graph.specs.Copied.{IsGrown}
use Rattle.wac_graph.specs.Package.{Key, moved_package}
use Rattle.wac_graph.specs.Node.{Node, import, definition, alias, instantiation}
use Rattle.wac_graph.specs.Graph.{Parts, plain_node, changed, given_too, with_entry, with_package, with_import, with_definition, with_export, with_alias, with_instantiation, with_name, with_argument}
use Rattle.wac_graph.specs.Kept.{Keeps}
use Rattle.wac_graph.proofs.Keeping.{Stay, extends_keeps, no_more, one_more, all_stay, stay_more, stay_set}

pub entry_keeps : (g : Parts) (e : Entry) → Keeps g (with_entry g e)
entry_keeps g e = extends_keeps g (with_entry g e) (record { types = one_more g.types e; packages = no_more g.packages; nodes = all_stay g.nodes; imports = no_more g.imports; exports = no_more g.exports })

pub package_keeps : (g : Parts) (key : Key) (p : PackageParts) (types : List Entry) → IsGrown g.types types → Keeps g (with_package g key p types)
package_keeps g key p types grown =
    extends_keeps g (with_package g key p types) (record { types = grown; packages = one_more g.packages (moved_package (length g.types) key p); nodes = all_stay g.nodes; imports = no_more g.imports; exports = no_more g.exports })

pub import_keeps : (g : Parts) (name : List ℕ) (k : ItemKind) → Keeps g (with_import g name k)
import_keeps g name k =
    extends_keeps g (with_import g name k) (record { types = no_more g.types; packages = no_more g.packages; nodes = stay_more g.nodes (plain_node (import name) k); imports = one_more g.imports (name, length g.nodes); exports = no_more g.exports })

pub definition_keeps : (g : Parts) (name : List ℕ) (k : ItemKind) → Keeps g (with_definition g name k)
definition_keeps g name k =
    extends_keeps g (with_definition g name k) (record { types = no_more g.types; packages = no_more g.packages; nodes = stay_more g.nodes (plain_node definition k); imports = no_more g.imports; exports = one_more g.exports (name, length g.nodes) })

pub export_keeps : (g : Parts) (name : List ℕ) (node : ℕ) → Keeps g (with_export g name node)
export_keeps g name node = extends_keeps g (with_export g name node) (record { types = no_more g.types; packages = no_more g.packages; nodes = all_stay g.nodes; imports = no_more g.imports; exports = one_more g.exports (name, node) })

pub alias_keeps : (g : Parts) (node : ℕ) (export : List ℕ) (k : ItemKind) → Keeps g (with_alias g node export k)
alias_keeps g node export k =
    extends_keeps g (with_alias g node export k) (record { types = no_more g.types; packages = no_more g.packages; nodes = stay_more g.nodes (plain_node (alias node export) k); imports = no_more g.imports; exports = no_more g.exports })

pub instantiation_keeps : (g : Parts) (p : ℕ) (k : ItemKind) → Keeps g (with_instantiation g p k)
instantiation_keeps g p k =
    extends_keeps g (with_instantiation g p k) (record { types = no_more g.types; packages = no_more g.packages; nodes = stay_more g.nodes (plain_node (instantiation p []) k); imports = no_more g.imports; exports = no_more g.exports })

-- a node that is changed in its place and keeps its kind
changed_keeps : (g : Parts) (node : ℕ) (f : Node → Node) → ((n : Node) → (f n).kind ≡ n.kind) → Keeps g (changed g node f)
changed_keeps g node f kind =
    extends_keeps g (changed g node f) (record { types = no_more g.types; packages = no_more g.packages; nodes = go (slice_get g.nodes node) refl; imports = no_more g.imports; exports = no_more g.exports })
  where
    go : (o : Option Node) → slice_get g.nodes node ≡ o → Stay g.nodes (elim o [ None ↦ g.nodes | Some n ↦ slice_set g.nodes node (f n) ])
    go None is = all_stay g.nodes
    go (Some n) is = stay_set g.nodes node n (f n) is (kind n)

pub name_keeps : (g : Parts) (node : ℕ) (name : List ℕ) → Keeps g (with_name g node name)
name_keeps g node name = changed_keeps g node (λ n. record n { name = Some name }) (λ n. refl)

pub argument_keeps : (g : Parts) (node : ℕ) (name : List ℕ) (value : ℕ) → Keeps g (with_argument g node name value)
argument_keeps g node name value = changed_keeps g node (λ n. record n { form = given_too n.form name value }) (λ n. refl)
