-- Packages that a caller of resolving supplies.
use Rattle.std.specs.Prelude.{◌≡◌, List, map, length, Option}
use Rattle.std.specs.Map.{lookup}
use Rattle.wac_graph_types.specs.declared.kind.ItemKind.{ItemKind}
use Rattle.wac_graph_types.specs.declared.kind.ItemKind.TheVariants as kinds
use Rattle.wac_graph_types.specs.declared.kind.InterfaceId.{InterfaceId}
use Rattle.wac_graph_types.specs.declared.kind.WorldId.{WorldId}
use Rattle.wac_graph_types.specs.Meaning.{Meaning, meaning}
use Rattle.wac_graph_types.specs.Package.{PackageParts}
use Rattle.wac_graph_types.specs.Scope.{Named}
use Rattle.wac_graph.specs.Package.{Key, HeldPackage, same_key, moved_package}
use Rattle.wac_graph.specs.Graph.{Parts}
use Rattle.wac_graph.specs.Means.{means}
use Rattle.wac_graph.specs.Origin.{Numbering, copied}

-- what a package means: its world as a component, its instance, and what it defines
pub record Contents : Type 0 where
  pub world : Meaning
  pub instance : Meaning
  pub definitions : Named Meaning

abbrev pub Packages : Type 0
Packages = List (Key × Contents)

-- what the parts of a package mean, where each kind means this
abbrev pub contents_by : (ItemKind → Meaning) → WorldId → InterfaceId → Named ItemKind → Contents
contents_by mean world instance definitions = record {
  world = mean (kinds.Component world);
  instance = mean (kinds.Instance instance);
  definitions = map (λ d. (d.0, mean d.1)) definitions;
}

-- the contents of the package of a key
abbrev pub contents_of : Numbering → Key → PackageParts → Contents
contents_of numbering key p = contents_by (λ k. meaning (λ i. numbering (copied key i)) p.types k) p.world p.instance p.definitions

-- the packages that are supplied, by key
abbrev pub supplied_packages : Numbering → List (Key × PackageParts) → Packages
supplied_packages numbering all = map (λ e. (e.0, contents_of numbering e.0 e.1)) all

-- the package of a key, if it is supplied
abbrev pub package_of : Key → Packages → Option Contents
package_of key all = lookup (λ k. same_key key k) all

-- the contents of a package that a graph holds
abbrev pub contents_in : Numbering → Parts → HeldPackage → Contents
contents_in numbering g p = contents_by (λ k. means numbering g k) p.world p.instance p.definitions

-- the package that was copied in has in the new graph the contents that it was supplied with
abbrev pub HoldsContents : Parts → Parts → Key → PackageParts → Type 0
HoldsContents old new key p = (numbering : Numbering) → contents_in numbering new (moved_package (length old.types) key p) ≡ contents_of numbering key p

-- a package has in the new graph the contents that it had
abbrev pub KeepsContents : Parts → Parts → HeldPackage → Type 0
KeepsContents old new p = (numbering : Numbering) → contents_in numbering new p ≡ contents_in numbering old p
