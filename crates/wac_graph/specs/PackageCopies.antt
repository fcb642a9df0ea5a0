-- Packages as a graph holds them.
use Rattle.std.specs.Prelude.{List, map}
use Rattle.wac_graph_types.specs.Names.{by_name}
use Rattle.wac_graph.specs.declared.package_key.PackageKey.{PackageKey}
use Rattle.wac_graph.specs.declared.packages.PackageCopy.{PackageCopy}
use Rattle.wac_graph.specs.Package.{Key, HeldPackage, key_of}

-- what was copied of the package of a key
abbrev pub held_under : Key → PackageCopy → HeldPackage
held_under key c = record { key = key; first = c.first; size = c.size; world = c.world; instance = c.instance; definitions = by_name c.definitions.entries }

-- a map's packages, in its order
abbrev pub held_in : List (PackageKey × PackageCopy) → List HeldPackage
held_in es = map (λ e. held_under (key_of e.0) e.1) es
