-- Exports as they are added to a graph.
use Rattle.std.specs.Prelude.{◌≡◌, ℕ, List, ◌++◌, Option, Some, None, map}
use Rattle.wac_lexer.specs.Span.{Span}
use Rattle.wac_graph_types.specs.declared.kind.ItemKind.{ItemKind}
use Rattle.wac_graph_types.specs.declared.rules.Reason.{Reason}
use Rattle.wac_graph_types.specs.Scope.{Named, IsFresh}
use Rattle.wac_graph.specs.Graph.{Parts}
use Rattle.wac_graph.specs.Origin.{Numbering}
use Rattle.wac_resolution_rules.specs.Composition.{Composition}
use Rattle.wac_resolution_rules.specs.Find.{names_of}
use Rattle.wac_resolution_rules.specs.Places.{more_at}
use Rattle.wac_resolution_rules.specs.Statements.{definition_bound}
use Rattle.wac_resolution_state.specs.declared.root.Root.{Root}
use Rattle.wac_resolution_state.specs.Nodes.{kind_in, NodesStand}
use Rattle.wac_resolution_state.specs.Root.{composed}
use Rattle.wac_resolution_statements.specs.declared.externs.Externs.{Externs}
use Rattle.wac_resolution_statements.specs.Externs.{imported_in, exported_in, ArePlaced}

-- the new graph has more nodes, or names for nodes, and more exports, and nothing else; each node keeps its kind
pub record GrowsExports (old new : Parts) : Type 0 where
  pub same : new ≡ record old { nodes = new.nodes; exports = new.exports }
  pub kinds : (n : ℕ) (k : ItemKind) → kind_in old.nodes n ≡ Some k → kind_in new.nodes n ≡ Some k
  pub stand : NodesStand new

-- the name is that of no definition at root and of no export, and it may be that of an export
pub record MayExport (named : List ℕ → Option Reason) (g : Parts) (root : Root) (name : List ℕ) : Type 0 where
  pub undefined : (numbering : Numbering) → definition_bound (composed numbering g root) name ≡ None
  pub new : IsFresh name g.exports
  pub passes : named name ≡ None

-- how one composition is taken to the next, under a numbering of origins
abbrev pub Leading : Type 1
Leading = Numbering → Composition → Composition → Type 0

-- names, each at one place
abbrev pub all_at : Span → List (List ℕ) → Named Span
all_at span names = map (λ name. (name, span)) names

-- these names were exported, each at this place
pub record ExportSteps (span : Span) (old new : Parts) (root : Root) (before after : Externs) (names : List (List ℕ))
    (leads : Leading) : Type 0 where
  pub grows : GrowsExports old new
  pub exports : names_of new.exports ≡ names_of old.exports ++ names
  pub imported : imported_in after ≡ imported_in before
  pub exported : exported_in after ≡ exported_in before ++ all_at span names
  pub goes : (numbering : Numbering) → leads numbering (composed numbering old root) (composed numbering new root)

-- something was exported, each name at this place
pub record Exported (span : Span) (old new : Parts) (root : Root) (before after : Externs) (leads : Leading) : Type
    0 where
  pub grows : GrowsExports old new
  pub placed : ArePlaced new after
  pub imported : imported_in after ≡ imported_in before
  pub exported : exported_in after ≡ exported_in before ++ more_at span old.exports new.exports
  pub goes : (numbering : Numbering) → leads numbering (composed numbering old root) (composed numbering new root)
