-- An alias that exists, or is added.
use Rattle.std.specs.Prelude.{◌≡◌, ℕ, List, Option, Some, None, IfSome, unwrap_or, length}
use Rattle.wac_graph.specs.Graph.{Parts, alias_in, export_kind, with_alias}

-- the new graph has one more node, the alias of an export that exists
abbrev pub AddsAlias : Parts → Parts → ℕ → List ℕ → Type 0
AddsAlias old new node export = IfSome (export_kind old node export) (λ k. new ≡ with_alias old node export k)

-- the new graph is the old one, where the alias exists; else it has one more node
abbrev pub added : Option ℕ → Parts → Parts → ℕ → List ℕ → Type 0
added None old new node export = AddsAlias old new node export
added (Some n) old new node export = new ≡ old

abbrev pub IsAliased : Parts → Parts → ℕ → List ℕ → Type 0
IsAliased old new node export = added (alias_in old.nodes node export) old new node export

-- the number of the alias: of the one that exists, or else of the next node
abbrev pub alias_number : Parts → ℕ → List ℕ → ℕ
alias_number g node export = unwrap_or (alias_in g.nodes node export) (length g.nodes)
