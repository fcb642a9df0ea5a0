-- What stays as a graph is built.
use Rattle.std.specs.Prelude.{◌≡◌, ℕ, List, Some, slice_get}
use Rattle.wac_graph_types.specs.declared.kind.ItemKind.{ItemKind}
use Rattle.wac_graph_types.specs.Growth.{KeepsNames}
use Rattle.wac_graph_types.specs.Scope.{look_up}
use Rattle.wac_graph.specs.Package.{HeldPackage}
use Rattle.wac_graph.specs.Graph.{Parts, export_kind, import_kind, arguments_of, alias_in}

-- what is read of the old graph by number and by name is read of the new one
pub record Keeps (old new : Parts) : Type 0 where
  pub names : KeepsNames old.types new.types
  pub packages : (p : ℕ) (h : HeldPackage) → slice_get old.packages p ≡ Some h → slice_get new.packages p ≡ Some h
  pub imported : (name : List ℕ) (node : ℕ) → look_up name old.imports ≡ Some node → look_up name new.imports ≡ Some node
  pub exported : (name : List ℕ) (node : ℕ) → look_up name old.exports ≡ Some node → look_up name new.exports ≡ Some node
  pub exports : (node : ℕ) (name : List ℕ) (k : ItemKind) → export_kind old node name ≡ Some k → export_kind new node name ≡ Some k
  pub imports : (p : ℕ) (name : List ℕ) (k : ItemKind) → import_kind old p name ≡ Some k → import_kind new p name ≡ Some k

-- each node has the arguments that it had
abbrev pub KeepsArguments : Parts → Parts → Type 0
KeepsArguments old new = (i : ℕ) → arguments_of new i ≡ arguments_of old i

-- each export has the alias that it had, or none
abbrev pub KeepsAliases : Parts → Parts → Type 0
KeepsAliases old new = (i : ℕ) (export : List ℕ) → alias_in new.nodes i export ≡ alias_in old.nodes i export
