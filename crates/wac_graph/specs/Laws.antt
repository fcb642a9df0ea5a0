-- What the laws of a graph say.
use Rattle.std.specs.Prelude.{◌≡◌, ◌<◌, ℕ, List, IsSome, Some, option_and_then, length, slice_get}
use Rattle.wac_graph_types.specs.declared.entry.Entry.{Entry}
use Rattle.wac_graph_types.specs.declared.kind.ItemKind.{ItemKind}
use Rattle.wac_graph_types.specs.declared.kind.ItemKind.TheVariants as kinds
use Rattle.wac_graph_types.specs.declared.kind.InterfaceId.{InterfaceId}
use Rattle.wac_graph_types.specs.declared.kind.WorldId.{WorldId}
use Rattle.wac_graph_types.specs.Package.{PackageParts}
use Rattle.wac_graph_types.specs.Readings.{instance_exports, interface_exports, world_exports, world_imports}
use Rattle.wac_graph_types.specs.Scope.{look_up, IsFresh}
use Rattle.wac_graph_types.specs.Shape.{exports_of, imports_of, items_mean}
use Rattle.wac_graph_types.specs.Table.{Names}
use Rattle.wac_graph.specs.Copied.{IsGrown}
use Rattle.wac_graph.specs.Package.{Key}
use Rattle.wac_graph.specs.Node.{Node}
use Rattle.wac_graph.specs.Graph.{Parts, with_package, with_name, with_argument, package_of, arguments_of, export_kind, import_kind, parameter_kind}
use Rattle.wac_graph.specs.Kept.{Keeps, KeepsAliases}
use Rattle.wac_graph.specs.Means.{entry_means, EntriesMean}
use Rattle.wac_graph.specs.Origin.{Numbering}

-- ---- what an interface or a world exports and imports, in the table's order, is what its meaning does

abbrev pub MeansInterfaceExports : Parts → Numbering → InterfaceId → Type 0
MeansInterfaceExports g numbering id = EntriesMean g → Names g.types (kinds.Instance id)
    → exports_of (entry_means numbering g id.0) ≡ items_mean (entry_means numbering g) (interface_exports g.types id.0)

abbrev pub MeansWorldExports : Parts → Numbering → WorldId → Type 0
MeansWorldExports g numbering id = EntriesMean g → Names g.types (kinds.Component id)
    → exports_of (entry_means numbering g id.0) ≡ items_mean (entry_means numbering g) (world_exports g.types id.0)

abbrev pub MeansWorldImports : Parts → Numbering → WorldId → Type 0
MeansWorldImports g numbering id = EntriesMean g → Names g.types (kinds.Component id)
    → imports_of (entry_means numbering g id.0) ≡ items_mean (entry_means numbering g) (world_imports g.types id.0)

-- ---- what is read after a step

-- what is read by number and by name stays as a package is added
abbrev pub KeepsWithPackage : Parts → Key → PackageParts → Type 0
KeepsWithPackage g key p = (types : List Entry) → IsGrown g.types types → Keeps g (with_package g key p types)

-- a node that is named has the name
abbrev pub NameIsRead : Parts → ℕ → List ℕ → Type 0
NameIsRead g node name = node < length g.nodes
    → option_and_then (λ (n : Node). n.name) (slice_get (with_name g node name).nodes node) ≡ Some name

-- an argument that is given to an instance is found by its name
abbrev pub ArgumentIsRead : Parts → ℕ → List ℕ → ℕ → Type 0
ArgumentIsRead g node name value = IsSome (package_of g node) → IsFresh name (arguments_of g node)
    → look_up name (arguments_of (with_argument g node name value) node) ≡ Some value

-- the instance's arguments of other names stay
abbrev pub OthersStay : Parts → ℕ → List ℕ → ℕ → Type 0
OthersStay g node name value = (other : List ℕ) → IsSome (package_of g node) → (other ≡ name → ⊥)
    → look_up other (arguments_of (with_argument g node name value) node) ≡ look_up other (arguments_of g node)

-- and so do other nodes' arguments
abbrev pub OtherNodesStay : Parts → ℕ → List ℕ → ℕ → Type 0
OtherNodesStay g node name value = (i : ℕ) → (i ≡ node → ⊥)
    → arguments_of (with_argument g node name value) i ≡ arguments_of g i

-- and so do aliases
abbrev pub AliasesStay : Parts → ℕ → List ℕ → ℕ → Type 0
AliasesStay g node name value = KeepsAliases g (with_argument g node name value)

-- the instance that is added to the old graph imports what the package of a number does
abbrev pub ImportsAsPackage : Parts → Parts → ℕ → Type 0
ImportsAsPackage old new p = (name : List ℕ) → parameter_kind new (length old.nodes) name ≡ import_kind old p name

-- the instance that is added to the old graph exports what its kind does
abbrev pub ExportsAsKind : Parts → Parts → ItemKind → Type 0
ExportsAsKind old new k = (name : List ℕ)
    → export_kind new (length old.nodes) name ≡ look_up name (instance_exports old.types k)
