-- Kinds that name entries of a table.
use Rattle.std.proofs.Common.{◌≡◌, ℕ, List, Option, None, Some, refl}
use Rattle.std.specs.Prelude.{IfSome}
use Rattle.wac_graph_types.specs.declared.kind.ItemKind.{ItemKind}
use Rattle.wac_graph_types.specs.declared.entry.Entry.{Entry}
use Rattle.wac_graph_types.specs.Readings.{world_imports}
use Rattle.wac_graph_types.specs.Scope.{look_up}
use Rattle.wac_graph_types.specs.Table.{Names, EachEntryNamed}
use Rattle.wac_graph_types.proofs.Found.{world_imports_named, found_named}

-- what a world imports names an entry
pub import_named : (es : List Entry) (w : ℕ) (name : List ℕ) → EachEntryNamed es → IfSome (look_up name (world_imports es w)) (Names es)
import_named es w name named = go (look_up name (world_imports es w)) refl
  where
    go : (o : Option ItemKind) → look_up name (world_imports es w) ≡ o → IfSome o (Names es)
    go None is = tt
    go (Some k) is = found_named es name (world_imports es w) k (world_imports_named es named w) is
