-- What a package is tested for.
use Rattle.std.specs.Prelude.{◌≡◌, ℕ, IsSome, List, length, option_and_then, String}
use Rattle.std.specs.List.{AllByRecursion}
use Rattle.std.specs.declared.alloc.Global.{Global}
use Rattle.wac_graph_types.specs.declared.kind.ItemKind.{ItemKind}
use Rattle.wac_graph_types.specs.declared.kind.ItemKind.TheVariants as kinds
use Rattle.wac_graph_types.specs.declared.kind.«Type».TheVariants as types
use Rattle.wac_graph_types.specs.declared.kind.WorldId.{WorldId}
use Rattle.wac_graph_types.specs.declared.kind.InterfaceId.{InterfaceId}
use Rattle.wac_graph_types.specs.declared.entry.Entry.{Entry}
use Rattle.wac_graph_types.specs.declared.package.PackageError.{PackageError}
use Rattle.wac_graph_types.specs.declared.package.PackageError.TheVariants as errors
use Rattle.wac_graph_types.specs.Entry.{children, export_children}
use Rattle.wac_graph_types.specs.Names.{by_name}
use Rattle.wac_graph_types.specs.Readings.{interface_in, interface_exports, world_exports}
use Rattle.wac_graph_types.specs.Shape.{items_mean}
use Rattle.wac_graph_types.specs.Meaning.{Meaning, row, meaning_at, IsOneToOne, IsEarlier, NamesBefore, EachKind}
use Rattle.wac_graph_types.specs.Table.{IsOfSort}

-- an interface type's interface has an id
abbrev pub HasId : List Entry → ItemKind → Type 0
HasId es (kinds.Ty (types.Interface id)) = IsSome (option_and_then (λ i. i.id) (interface_in es id.0))
HasId es _ = Unit {0}

-- the parts of a package
pub record PackageParts : Type 0 where
  pub types : List Entry
  pub world : WorldId
  pub instance : InterfaceId
  pub definitions : List (List ℕ × ItemKind)

-- the parts of a package whose definitions are a map's
abbrev pub parts_of : List Entry → WorldId → InterfaceId → List (String Global × ItemKind) → PackageParts
parts_of types world instance definitions = record {
  types = types;
  world = world;
  instance = instance;
  definitions = by_name definitions;
}

-- each kind in an entry
abbrev pub EachInEntries : (ItemKind → Type 0) → List Entry → Type 0
EachInEntries P es = AllByRecursion (λ e. EachKind P (children e)) es

-- each of these named kinds
abbrev pub EachItem : (ItemKind → Type 0) → List (List ℕ × ItemKind) → Type 0
EachItem P ds = AllByRecursion (λ d. P d.1) ds

-- each kind that a package names: its world as a component, its instance, its definitions, and the kinds in its entries
pub record EachNamed (P : ItemKind → Type 0) (p : PackageParts) : Type 0 where
  pub of_world : P (kinds.Component p.world)
  pub of_instance : P (kinds.Instance p.instance)
  pub of_definitions : EachItem P p.definitions
  pub of_entries : EachInEntries P p.types

-- ---- what a package is tested for, in order

-- 1: each id is an entry's number
pub record IdsInRange (p : PackageParts) : Type 0 where
  pub each : EachNamed (NamesBefore (length p.types)) p

-- 2: each id names an entry of its sort
pub record IdsOfSort (p : PackageParts) : Type 0 where
  pub each : EachNamed (IsOfSort p.types) p

-- 3: each id in an entry is below the entry's number
pub record IdsEarlier (es : List Entry) : Type 0 where
  pub each : IsEarlier es

-- 4: each interface that appears as a type among the definitions, or in an entry, has an id
pub record HaveIds (es : List Entry) (ds : List (List ℕ × ItemKind)) : Type 0 where
  pub in_definitions : EachItem (HasId es) ds
  pub in_entries : EachInEntries (HasId es) es

-- 5: the instance exports what the world exports

-- the instance and the world export the same names with the same meanings, in order
abbrev pub ExportsAgree : (ℕ → ℕ) → List Entry → WorldId → InterfaceId → Type 0
ExportsAgree origins es world instance = items_mean (meaning_at origins es) (interface_exports es instance.0) ≡ items_mean (meaning_at origins es) (world_exports es world.0)

-- the exports of two maps have equal names and meanings, one by one
abbrev pub SameExterns : List (String Global × ItemKind) → List (String Global × ItemKind) → (ℕ → Meaning) → Type 0
SameExterns first second means = row means (export_children first) ≡ row means (export_children second)

abbrev pub SameExports : List Entry → WorldId → InterfaceId → Type 0
SameExports es world instance = (origins : ℕ → ℕ) → IsOneToOne es origins → ExportsAgree origins es world instance

abbrev pub OtherExports : List Entry → WorldId → InterfaceId → Type 0
OtherExports es world instance = (origins : ℕ → ℕ) → IsOneToOne es origins → ExportsAgree origins es world instance → ⊥

-- none of the five faults
pub record IsPackage (p : PackageParts) : Type 0 where
  pub in_range : IdsInRange p
  pub of_sort : IdsOfSort p
  pub earlier : IdsEarlier p.types
  pub ids : HaveIds p.types p.definitions
  pub exports : SameExports p.types p.world p.instance

-- the error's fault is present, and none of those before it
abbrev pub FirstFault : PackageError → PackageParts → Type 0
FirstFault errors.OutOfRange p = IdsInRange p → ⊥
FirstFault errors.OtherSort p = IdsInRange p × (IdsOfSort p → ⊥)
FirstFault errors.NotEarlier p = IdsInRange p × IdsOfSort p × (IdsEarlier p.types → ⊥)
FirstFault errors.NoInterfaceId p = IdsInRange p × IdsOfSort p × IdsEarlier p.types × (HaveIds p.types p.definitions → ⊥)
FirstFault errors.InstanceExports p = IdsInRange p × IdsOfSort p × IdsEarlier p.types × HaveIds p.types p.definitions × OtherExports p.types p.world p.instance
FirstFault (errors.Memory refused) p = ⊥
