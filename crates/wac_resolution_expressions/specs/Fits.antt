-- Rules that are passed in, and arguments that fit by them.
use Rattle.std.specs.Prelude.{◌≡◌, ℕ, List, ◌∷◌, ◌++◌, Option, Some, MatchOption, IsSome}
use Rattle.std.specs.List.{AllByRecursion}
use Rattle.wac_graph_types.specs.declared.kind.WorldId.{WorldId}
use Rattle.wac_graph_types.specs.declared.rules.Reason.{Reason}
use Rattle.wac_graph_types.specs.Meaning.{Meaning}
use Rattle.wac_graph_types.specs.Readings.{world_imports}
use Rattle.wac_graph_types.specs.Scope.{Named, look_up, IsFresh, StandsFor}
use Rattle.wac_graph.specs.declared.node.NodeId.{NodeId}
use Rattle.wac_graph.specs.Graph.{Parts}
use Rattle.wac_graph.specs.Origin.{Numbering, IsOneToOne}
use Rattle.wac_resolution_rules.specs.Composition.{kind_at}
use Rattle.wac_resolution_rules.specs.Expressions.{Fits}
use Rattle.wac_resolution_rules.specs.Given.{Rules}
use Rattle.wac_resolution_state.specs.Nodes.{composition_of}
use Rattle.wac_resolution_expressions.specs.Arguments.{given_nodes}
use Rattle.wac_resolution_expressions.specs.Spreads.{imports_at}

-- the argument is for an import of the world
abbrev pub IsImport : Parts → WorldId → List ℕ × ℕ → Type 0
IsImport g w a = IsSome (look_up a.0 (world_imports g.types w.0))

-- the argument is for an import of the world, and its node fits it
pub record IsFit (rules : Rules) (g : Parts) (w : WorldId) (name : List ℕ) (node : ℕ) : Type 0 where
  pub import : IsImport g w (name, node)
  pub is : (numbering : Numbering) (declared : Named ℕ) → IsOneToOne numbering
      → Fits rules (imports_at numbering g w) (composition_of numbering g declared).nodes (name, node)

-- the world has no such import
pub record IsForNone (g : Parts) (w : WorldId) (name : List ℕ) : Type 0 where
  pub is : (numbering : Numbering) → IsFresh name (imports_at numbering g w)

-- the argument is for an import, but its node does not fit it, for this reason
pub record IsUnfit (rules : Rules) (g : Parts) (w : WorldId) (name : List ℕ) (node : ℕ) (r : Reason) : Type 0 where
  pub is : (numbering : Numbering) (declared : Named ℕ) → IsOneToOne numbering
      → (wants : Meaning) × StandsFor (imports_at numbering g w) name wants
      × (rules.passes (kind_at (composition_of numbering g declared).nodes node) wants ≡ Some r)

-- it doesn't fit; without a reason it is for no import
abbrev pub IsAgainst : Rules → Parts → WorldId → List ℕ → ℕ → Option Reason → Type 0
IsAgainst rules g w name node r = MatchOption r (IsForNone g w name) (λ x. IsUnfit rules g w name node x)

-- these arguments fit
abbrev pub FitAll : Rules → Parts → WorldId → Named ℕ → Type 0
FitAll rules g w all = (numbering : Numbering) (declared : Named ℕ) → IsOneToOne numbering
    → AllByRecursion (Fits rules (imports_at numbering g w) (composition_of numbering g declared).nodes) all

-- each argument fits
pub record AllFit (rules : Rules) (g : Parts) (w : WorldId) (all : Named NodeId) : Type 0 where
  pub imports : AllByRecursion (IsImport g w) (given_nodes all)
  pub is : FitAll rules g w (given_nodes all)

-- the argument of this name doesn't fit, and each before it does
pub record IsFirstMisfit (rules : Rules) (g : Parts) (w : WorldId) (all : Named NodeId) (name : List ℕ)
    (r : Option Reason) : Type 0 where
  pub before : Named ℕ
  pub node : ℕ
  pub after : Named ℕ
  pub split : given_nodes all ≡ before ++ (name, node) ∷ after
  pub fit : FitAll rules g w before
  pub against : IsAgainst rules g w name node r
