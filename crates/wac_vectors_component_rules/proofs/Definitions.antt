-- What is found among a package's definitions is a kind of its table.
use Rattle.std.proofs.Common.{◌≡◌, ℕ, List, Option, Some, None, refl}
use Rattle.std.specs.Prelude.{IfSome}
use Rattle.wac_graph_types.specs.declared.kind.ItemKind.{ItemKind}
use Rattle.wac_graph_types.specs.declared.entry.Entry.{Entry}
use Rattle.wac_graph_types.specs.Scope.{Named, look_up}
use Rattle.wac_graph_types.specs.Table.{Names, ItemsNamed}
use Rattle.wac_graph_types.proofs.Found.{found_named}

found : (es : List Entry) (name : List ℕ) (all : Named ItemKind) (o : Option ItemKind) → ItemsNamed es all → look_up name all ≡ o → IfSome o (Names es)
found es name all None h is = tt
found es name all (Some k) h is = found_named es name all k h is

pub names_found : (es : List Entry) (name : List ℕ) (all : Named ItemKind) → ItemsNamed es all → IfSome (look_up name all) (Names es)
names_found es name all h = found es name all (look_up name all) h refl
