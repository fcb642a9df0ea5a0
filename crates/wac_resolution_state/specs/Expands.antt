-- What a graph gets as paths are resolved: more types and packages, and nothing else.
use Rattle.std.specs.Prelude.{◌≡◌, ◌<◌, ℕ, List, Some, None, option_map, length, slice_get}
use Rattle.std.specs.List.{AllByRecursion}
use Rattle.wac_graph_types.specs.declared.kind.ItemKind.{ItemKind}
use Rattle.wac_graph_types.specs.Growth.{KeepsNames}
use Rattle.wac_graph_types.specs.Meaning.{Meaning}
use Rattle.wac_graph_types.specs.Package.{PackageParts}
use Rattle.wac_graph_types.specs.Table.{Names}
use Rattle.wac_graph.specs.Graph.{Parts}
use Rattle.wac_graph.specs.Means.{means, declared_count}
use Rattle.wac_graph.specs.Origin.{Numbering}
use Rattle.wac_graph.specs.Package.{Key, HeldPackage, IsHeld}
use Rattle.wac_graph.specs.Packages.{supplied_packages, package_of, contents_in}

-- the new graph has more types and perhaps more packages, nothing else, and each kind means what it meant
pub record Expands (old new : Parts) : Type 0 where
  pub same : new ≡ record old { types = new.types; packages = new.packages }
  pub held : (i : ℕ) (p : HeldPackage) → slice_get old.packages i ≡ Some p → slice_get new.packages i ≡ Some p
  pub named : KeepsNames old.types new.types
  pub kinds : (numbering : Numbering) (k : ItemKind) → Names old.types k → means numbering new k ≡ means numbering old k

-- the graph holds the package with the contents with which it was supplied
pub record IsSuppliedAs (packages : List (Key × PackageParts)) (g : Parts) (p : HeldPackage) : Type 0 where
  pub there : IsHeld g.types p
  pub contents : (numbering : Numbering) → package_of p.key (supplied_packages numbering packages) ≡ Some (contents_in numbering g p)

-- each package that the graph holds was supplied, with the contents that it has there
abbrev pub AllSupplied : List (Key × PackageParts) → Parts → Type 0
AllSupplied packages g = AllByRecursion (IsSuppliedAs packages g) g.packages

-- a kind was found for which this holds; no resource was declared
pub record Found (packages : List (Key × PackageParts)) (old new : Parts) (holds : Numbering → Meaning → Type 0)
    (k : ItemKind) : Type 0 where
  pub grows : Expands old new
  pub supplied : AllSupplied packages new
  pub count : declared_count new ≡ declared_count old
  pub named : Names new.types k
  pub is : (numbering : Numbering) → holds numbering (means numbering new k)

-- the package of a key is in the new graph, under this number; no resource was declared
pub record Loads (packages : List (Key × PackageParts)) (old new : Parts) (key : Key) (id : ℕ) : Type 0 where
  pub grows : Expands old new
  pub supplied : AllSupplied packages new
  pub count : declared_count new ≡ declared_count old
  pub there : id < length new.packages
  pub keyed : option_map (λ p. p.key) (slice_get new.packages id) ≡ Some key

-- no package of the key was supplied
pub record IsNotSupplied (packages : List (Key × PackageParts)) (key : Key) : Type 0 where
  pub is : (numbering : Numbering) → package_of key (supplied_packages numbering packages) ≡ None
