-- What a target world allows and requires.
use Rattle.std.specs.Prelude.{◌≡◌, ℕ, List, [], ◌++◌, Option, Some, None, option_map, option_and_then, filter_map, flat_map, map, reverse}
use Rattle.std.specs.Option.{option_or}
use Rattle.std.specs.List.{AllByRecursion}
use Rattle.wac_graph_types.specs.Meaning.{Meaning}
use Rattle.wac_graph_types.specs.Scope.{Named, look_up, StandsFor}
use Rattle.wac_graph_types.specs.Shape.{exports_of, imports_of, uses_of, id_of, promoted}
use Rattle.wac_graph.specs.Packages.{package_of}
use Rattle.wac_ast_grammar.specs.Tree.{PackagePath}
use Rattle.wac_resolution_rules.specs.Kinds.{instance_of, world_of}
use Rattle.wac_resolution_rules.specs.Given.{Given, imports_in}
use Rattle.wac_resolution_rules.specs.Paths.{LeadsTo}
use Rattle.wac_resolution_rules.specs.Composition.{Composition, Node, kind_at, root_scope}
use Rattle.wac_resolution_rules.specs.Nodes.{imports, key_of_node}
use Rattle.wac_resolution_rules.specs.Expressions.{left_out}

-- ---- what is allowed

-- the instances that an interface or a world uses
abbrev pub used_by : Meaning → List Meaning
used_by entry = map (λ u. u.1) (uses_of entry)

-- those that an import uses, if it is an instance
abbrev pub uses_of_import : List ℕ × Meaning → List Meaning
uses_of_import x = elim (instance_of x.1) [ None ↦ [] | Some i ↦ used_by i ]

-- the instances that a world uses, then those that its imports use
abbrev pub uses_of_world : Meaning → List Meaning
uses_of_world w = used_by w ++ flat_map uses_of_import (imports_of w)

-- an instance under its id, if it has one
abbrev pub under_id : Meaning → Option (List ℕ × Meaning)
under_id k = option_map (λ id. (id, k)) (option_and_then id_of (instance_of k))

-- the used interface of an id: the last
abbrev pub used_under : Meaning → List ℕ → Option Meaning
used_under w id = look_up id (reverse (filter_map under_id (uses_of_world w)))

-- what a world allows to be imported under a name: the interface that is used, else its own import
abbrev pub allowed : Meaning → List ℕ → Option Meaning
allowed w name = option_or (used_under w name) (look_up name (imports_of w))

-- ---- what is imported

-- the imports of a node's package for which the node has no argument
abbrev pub open_imports : Given → Node → Named Meaning
open_imports s n = elim (option_and_then (λ key. package_of key s.context.packages) (key_of_node n.form))
    [ None ↦ [] | Some p ↦ left_out (imports_in p) n.arguments ]

-- what a composition imports: its import nodes in order, then what each instance of a package leaves open
abbrev pub all_imports : Given → Composition → Named Meaning
all_imports s c = imports c ++ flat_map (open_imports s) c.nodes

-- ---- the check

-- an import is allowed under its name, and what is allowed fits it
abbrev pub ImportAllowed : Given → Meaning → List ℕ × Meaning → Type 0
ImportAllowed s w x = (k : Meaning) × (allowed w x.0 ≡ Some k) × (s.rules.passes (promoted k) x.1 ≡ None)

-- an export of the world is exported, and what is exported fits it
abbrev pub ExportMet : Given → Composition → List ℕ × Meaning → Type 0
ExportMet s c x = (node : ℕ) × StandsFor c.exports x.0 node
    × (s.rules.passes (kind_at c.nodes node) (promoted x.1) ≡ None)

-- the target world allows each import, and its exports are met
abbrev pub IsAllowed : Given → Composition → Meaning → Type 0
IsAllowed s c w = AllByRecursion (ImportAllowed s w) (all_imports s c) × AllByRecursion (ExportMet s c) (exports_of w)

-- the path resolves to a world type, which allows the composition
abbrev pub MeetsPath : Given → Composition → PackagePath → Type 0
MeetsPath s c p = (k : Meaning) × (w : Meaning) × LeadsTo s.context (root_scope c) p k × (world_of k ≡ Some w)
    × IsAllowed s c w

-- the target is met, if there is one
abbrev pub MeetsTarget : Given → Composition → Option PackagePath → Type 0
MeetsTarget s c None = Unit {0}
MeetsTarget s c (Some p) = MeetsPath s c p
