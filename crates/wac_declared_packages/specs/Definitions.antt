-- The package that the definitions of a graph make.
use Rattle.std.specs.Prelude.{◌≡◌, ℕ, List, [], ◌∷◌, Option, Some, None, map, flat_map, option_map, option_and_then, slice_get}
use Rattle.wac_graph_types.specs.declared.kind.ItemKind.{ItemKind}
use Rattle.wac_graph_types.specs.declared.kind.ItemKind.TheVariants as kinds
use Rattle.wac_graph_types.specs.declared.kind.«Type».{«Type» as ItemType}
use Rattle.wac_graph_types.specs.declared.kind.«Type».TheVariants as types
use Rattle.wac_graph_types.specs.declared.kind.WorldId.{WorldId}
use Rattle.wac_graph_types.specs.Package.{PackageParts}
use Rattle.wac_graph_types.specs.Readings.{world_imports, world_exports}
use Rattle.wac_graph_types.specs.Scope.{Named, look_up}
use Rattle.wac_graph.specs.Graph.{Parts}

-- the kind of a node
abbrev pub kind_at : Parts → ℕ → Option ItemKind
kind_at g i = option_map (λ n. n.kind) (slice_get g.nodes i)

-- a definition and its kind, as an export with the kind of its node
abbrev pub kind_defined : List ℕ × ItemKind → List ℕ × Option ItemKind
kind_defined d = (d.0, Some d.1)

abbrev pub kind_exported : Parts → List ℕ × ℕ → List ℕ × Option ItemKind
kind_exported g e = (e.0, kind_at g e.1)

-- these are what the graph exports, in order, each with the kind of its node
abbrev pub AreExported : Parts → Named ItemKind → Type 0
AreExported g ds = map kind_defined ds ≡ map (kind_exported g) g.exports

-- the world that a kind is, if it is one
abbrev pub world_of_type : ItemType → Option WorldId
world_of_type (types.Resource id) = None
world_of_type (types.Func id) = None
world_of_type (types.Value v) = None
world_of_type (types.Interface id) = None
world_of_type (types.World id) = Some id
world_of_type (types.Module id) = None

abbrev pub world_of : ItemKind → Option WorldId
world_of (kinds.Ty t) = world_of_type t
world_of (kinds.Func id) = None
world_of (kinds.Instance id) = None
world_of (kinds.Component id) = None
world_of (kinds.Module id) = None
world_of (kinds.Value v) = None

-- the world of that name
abbrev pub world_named : List ℕ → Named ItemKind → Option WorldId
world_named name ds = option_and_then world_of (look_up name ds)

abbrev pub listed : Option WorldId → List WorldId
listed None = []
listed (Some w) = w ∷ []

-- all worlds, in order
abbrev pub worlds_in : Named ItemKind → List WorldId
worlds_in ds = flat_map (λ d. listed (world_of d.1)) ds

abbrev pub sole : List WorldId → Option WorldId
sole [] = None
sole (w ∷ []) = Some w
sole (w ∷ v ∷ ws) = None

-- the world, where there is just one
abbrev pub only_world : Named ItemKind → Option WorldId
only_world ds = sole (worlds_in ds)

-- the world of that name, which exists, or the only one
abbrev pub IsChosen : Option (List ℕ) → Named ItemKind → Option WorldId → Type 0
IsChosen None ds world = world ≡ only_world ds
IsChosen (Some name) ds world = (w : WorldId) × (world ≡ Some w) × (world_named name ds ≡ Some w)

-- the package's world is this one, or one that imports and exports nothing
abbrev pub IsWorld : Option WorldId → PackageParts → Type 0
IsWorld (Some w) p = p.world ≡ w
IsWorld None p = (world_imports p.types p.world.0 ≡ []) × (world_exports p.types p.world.0 ≡ [])

-- the package's world is the one of that name, or the only one, or else imports and exports nothing
abbrev pub HasWorld : Option (List ℕ) → PackageParts → Type 0
HasWorld name p = (w : Option WorldId) × IsChosen name p.definitions w × IsWorld w p
