-- Packages in a graph.
use Rattle.std.specs.Prelude.{ℕ, ◌+◌, ◌≤◌, Bool, true, false, ◌&&◌, List, Option, Some, None, option_map, string_bytes, length, ◌++◌, fold}
use Rattle.std.specs.Hash as fed
use Rattle.std.specs.Hash.DefaultHasher as sip
use Rattle.std.specs.List.{position}
use Rattle.std.specs.Str.{bytes_eq}
use Rattle.wac_graph_types.specs.declared.kind.ItemKind.{ItemKind}
use Rattle.wac_graph_types.specs.declared.kind.ItemKind.TheVariants as kinds
use Rattle.wac_graph_types.specs.declared.kind.InterfaceId.{InterfaceId}
use Rattle.wac_graph_types.specs.declared.kind.WorldId.{WorldId}
use Rattle.wac_graph_types.specs.declared.entry.Entry.{Entry}
use Rattle.wac_graph_types.specs.Package.{PackageParts}
use Rattle.wac_graph_types.specs.Table.{Names, ItemsNamed}
use Rattle.wac_graph.specs.declared.package_key.PackageKey.{PackageKey}
use Rattle.wac_graph.specs.Moved.{moved_items}

-- a package's name and version
abbrev pub Key : Type 0
Key = List ℕ × Option (List ℕ)

abbrev pub key_of : PackageKey → Key
key_of k = (string_bytes k.name, option_map string_bytes k.version)

abbrev pub same_version : Option (List ℕ) → Option (List ℕ) → Bool
same_version None None = true
same_version (Some v) (Some w) = bytes_eq v w
same_version _ _ = false

abbrev pub same_key : Key → Key → Bool
same_key a b = bytes_eq a.0 b.0 && same_version a.1 b.1

-- what a key's hash is made of: the name, and after it the text of the version
abbrev pub hash_of : Key → ℕ
hash_of k = sip.finish (fold sip.write sip.initial (fed.str k.0 ++ fed.option fed.str k.1))

-- a package that was added, in the graph's numbers; its types are so many entries from the first on
pub record HeldPackage : Type 0 where
  pub key : Key
  pub first : ℕ
  pub size : ℕ
  pub world : WorldId
  pub instance : InterfaceId
  pub definitions : List (List ℕ × ItemKind)

-- the package of a key
abbrev pub package_keyed : Key → List HeldPackage → Option ℕ
package_keyed key ps = position (λ p. same_key key p.key) ps

-- a package whose numbers are moved by n
abbrev pub moved_package : ℕ → Key → PackageParts → HeldPackage
moved_package n key p = record { key = key; first = n; size = length p.types; world = record { 0 = n + p.world.0 }; instance = record { 0 = n + p.instance.0 }; definitions = moved_items n p.definitions }

-- what a package names is in the table
pub record IsHeld (es : List Entry) (p : HeldPackage) : Type 0 where
  pub of_range : p.first + p.size ≤ length es
  pub of_world : Names es (kinds.Component p.world)
  pub of_instance : Names es (kinds.Instance p.instance)
  pub of_definitions : ItemsNamed es p.definitions
