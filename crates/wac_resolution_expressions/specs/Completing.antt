-- The rest of an instantiation, after the arguments that aren't spreads were given.
use Rattle.std.specs.Prelude.{◌≡◌, ◌<◌, ◌⊎◌, ℕ, List, Option, Some, None, length}
use Rattle.wac_lexer.specs.Span.{Span}
use Rattle.wac_graph_types.specs.declared.kind.WorldId.{WorldId}
use Rattle.wac_graph_types.specs.declared.rules.Reason.{Reason}
use Rattle.wac_graph_types.specs.Scope.{Named}
use Rattle.wac_graph_types.specs.Steps.{Steps, Fails}
use Rattle.wac_ast_grammar.specs.Tree.{PackageName, Arguments}
use Rattle.wac_graph.specs.declared.node.NodeId.{NodeId}
use Rattle.wac_graph.specs.Graph.{Parts}
use Rattle.wac_graph.specs.Origin.{Numbering, IsOneToOne}
use Rattle.wac_graph.specs.Package.{HeldPackage}
use Rattle.wac_graph.specs.Packages.{Contents, contents_in}
use Rattle.wac_resolution_errors.specs.Error.{Error, missing_component_import, mismatched_instantiation_arg}
use Rattle.wac_resolution_rules.specs.BrokenExpressions.{SpreadBroken, InstantiationBroken}
use Rattle.wac_resolution_rules.specs.Expressions.{Giving, at, has_fill, spreads_of, IsComplete, Spreads, Instantiates}
use Rattle.wac_resolution_rules.specs.Given.{Rules, imports_in}
use Rattle.wac_resolution_rules.specs.Paths.{Context}
use Rattle.wac_resolution_state.specs.NodeGrowth.{GrowsNodes}
use Rattle.wac_resolution_state.specs.Nodes.{composition_of}
use Rattle.wac_resolution_expressions.specs.Arguments.{given_nodes}
use Rattle.wac_resolution_expressions.specs.Fits.{AllFit}
use Rattle.wac_resolution_expressions.specs.Spreads.{giving_of, imports_at}
use Rattle.wac_resolution_expressions.specs.declared.packages.Loaded.{Loaded}
use Rattle.wac_resolution_expressions.specs.Loaded.{IsLoaded}

-- what is reported of an argument that doesn't fit; without a reason it is for no import
abbrev pub misfit_of : List ℕ → List ℕ → Option Reason → Span → Error
misfit_of component name None span = missing_component_import component name span
misfit_of component name (Some r) span = mismatched_instantiation_arg name r span

-- each argument fits, and none is left out
pub record AreRight (rules : Rules) (g : Parts) (w : WorldId) (args : Arguments) (given : Named NodeId) : Type 0 where
  pub fit : AllFit rules g w given
  pub complete : (numbering : Numbering) → IsComplete (imports_at numbering g w) (has_fill args) (given_nodes given)

-- an argument doesn't fit, or one is left out: of each package that imports what the world does
abbrev pub AreWrong : Rules → Parts → Named ℕ → WorldId → PackageName → Arguments → Named NodeId → Error → Type 0
AreWrong rules g declared w x args given e = (numbering : Numbering) (context : Context) (p : Contents) → IsOneToOne numbering
    → imports_in p ≡ imports_at numbering g w
    → InstantiationBroken (record { context = context; rules = rules }) p x args (giving_of numbering g declared given) e

-- after spreads the instance was made
pub record Completes (rules : Rules) (old new : Parts) (declared : Named ℕ) (p : Loaded) (args : Arguments)
    (given : Named NodeId) (n : ℕ) : Type 0 where
  pub grows : GrowsNodes old new
  pub there : n < length new.nodes
  pub mid : Parts
  pub all : Named NodeId
  pub spread : (numbering : Numbering)
      → Steps (Spreads (imports_at numbering old p.world)) (giving_of numbering old declared given) (spreads_of args)
      (giving_of numbering mid declared all)
  pub made : (held : HeldPackage) → IsLoaded old p held → (numbering : Numbering) → IsOneToOne numbering
      → Instantiates rules (contents_in numbering old held) held.key (has_fill args) (giving_of numbering mid declared all)
      (at (composition_of numbering new declared) n)

-- a spread is broken, or after the spreads the arguments are wrong
abbrev pub FailsToComplete : Rules → Parts → Named ℕ → WorldId → PackageName → Arguments → Named NodeId → Error → Type 0
FailsToComplete rules g declared w x args given e = (numbering : Numbering) (context : Context) (p : Contents)
    → IsOneToOne numbering → imports_in p ≡ imports_at numbering g w
    → Fails (Spreads (imports_in p)) (SpreadBroken (imports_in p) e) (giving_of numbering g declared given)
    (spreads_of args)
    ⊎ ((all : Giving) × Steps (Spreads (imports_in p)) (giving_of numbering g declared given) (spreads_of args) all
    × InstantiationBroken (record { context = context; rules = rules }) p x args all e)
