-- Where names were imported and exported, beside a graph.
use Rattle.std.specs.Prelude.{◌≡◌, ℕ, List, Option, option_map}
use Rattle.wac_lexer.specs.Span.{Span}
use Rattle.wac_graph_types.specs.declared.rules.Reason.{Reason}
use Rattle.wac_graph_types.specs.Names.{by_name}
use Rattle.wac_graph_types.specs.Scope.{Named}
use Rattle.wac_graph.specs.Graph.{Parts}
use Rattle.wac_resolution_rules.specs.Find.{names_of}
use Rattle.wac_resolution_rules.specs.Given.{Given}
use Rattle.wac_resolution_rules.specs.Places.{Places}
use Rattle.wac_resolution_state.specs.declared.root.Root.{Root}
use Rattle.wac_resolution_state.specs.Root.{places}
use Rattle.wac_resolution_statements.specs.declared.externs.Externs.{Externs}
use Rattle.wac_resolution_statements.specs.declared.name.NewName.{NewName}

-- where each name was imported
abbrev pub imported_in : Externs → Named Span
imported_in x = by_name x.imported.entries

-- where each name was exported
abbrev pub exported_in : Externs → Named Span
exported_in x = by_name x.exported.entries

-- where names were bound at root, imported and exported
abbrev pub places_in : Root → Externs → Places
places_in root x = record { bound = places root; imported = imported_in x; exported = exported_in x }

-- the names that have places are those that the graph imports and exports, in order
pub record ArePlaced (g : Parts) (x : Externs) : Type 0 where
  pub imported : names_of (imported_in x) ≡ names_of g.imports
  pub exported : names_of (exported_in x) ≡ names_of g.exports

-- this holds with these rules for names, whatever else is given
abbrev pub Under : (List ℕ → Option Reason) → (Given → Type 0) → Type 0
Under named holds = (s : Given) → s.rules.named ≡ named → holds s

-- what can be done where a name may not be used
abbrev pub help_of : NewName → Option (List ℕ)
help_of name = option_map (λ text. text.now) name.help
