-- Exports of an instance that are exported in order.
use Rattle.std.specs.Prelude.{◌≡◌, ℕ, List, Some, IsSome, option_map, unwrap_or, string_bytes, String}
use Rattle.std.specs.List.{AllByRecursion}
use Rattle.std.specs.declared.alloc.Global.{Global}
use Rattle.wac_graph_types.specs.declared.kind.ItemKind.{ItemKind}
use Rattle.wac_graph_types.specs.Meaning.{Meaning}
use Rattle.wac_graph_types.specs.Scope.{Named, look_up}
use Rattle.wac_graph_types.specs.Shape.{items_mean, nothing}
use Rattle.wac_graph.specs.Graph.{Parts, export_kind}
use Rattle.wac_graph.specs.Means.{means}
use Rattle.wac_graph.specs.Origin.{Numbering}
use Rattle.wac_resolution_rules.specs.Find.{names_of}
use Rattle.wac_resolution_rules.specs.Statements.{unexported}

-- these are the names among all that aren't exported yet; each of all is what its name denotes
pub record AreUnexported (exports : Named ℕ) (all : Named ItemKind) (names : List (List ℕ)) : Type 0 where
  pub are : (f : ℕ → Meaning) → names ≡ names_of (unexported exports (items_mean f all))
  pub found : AllByRecursion (λ x. look_up x.0 all ≡ Some x.1) all

-- the node exports something under each name
abbrev pub EachExported : Parts → ℕ → List (List ℕ) → Type 0
EachExported g node names = AllByRecursion (λ name. IsSome (export_kind g node name)) names

-- what a node exports under a name, as it is meant
abbrev pub meaning_exported : Numbering → Parts → ℕ → List ℕ → Meaning
meaning_exported numbering g node name = unwrap_or (option_map (means numbering g) (export_kind g node name)) nothing

-- that name with what it denotes
abbrev pub exported_item : Numbering → Parts → ℕ → String Global → List ℕ × Meaning
exported_item numbering g node name = (string_bytes name, meaning_exported numbering g node (string_bytes name))
