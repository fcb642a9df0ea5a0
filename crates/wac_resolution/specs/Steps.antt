-- What resolving yields, step by step.
use Rattle.std.specs.Prelude.{◌≡◌, ℕ, List, Option, Some, ◌⊎◌}
use Rattle.wac_graph_types.specs.Scope.{Named}
use Rattle.wac_graph_types.specs.Steps.{Steps, Fails}
use Rattle.wac_ast_grammar.specs.Tree.{PackagePath, Statement}
use Rattle.wac_graph.specs.Graph.{Parts}
use Rattle.wac_graph.specs.Origin.{Numbering, IsOneToOne}
use Rattle.wac_resolution_errors.specs.Error.{Error}
use Rattle.wac_resolution_rules.specs.BrokenStatements.{TargetBroken}
use Rattle.wac_resolution_rules.specs.Composition.{start}
use Rattle.wac_resolution_rules.specs.Given.{Given, Rules}
use Rattle.wac_resolution_rules.specs.Places.{Placed, Leads, placed_start}
use Rattle.wac_resolution_rules.specs.Statements.{Composes}
use Rattle.wac_resolution_rules.specs.Target.{MeetsTarget}
use Rattle.wac_resolution_state.specs.declared.root.Root.{Root}
use Rattle.wac_resolution_state.specs.Nodes.{composition_of}
use Rattle.wac_resolution_state.specs.Root.{composed}
use Rattle.wac_resolution_state.specs.declared.context.Context.{Context}
use Rattle.wac_resolution_state.specs.Expands.{AllSupplied}
use Rattle.wac_resolution_state.specs.Context.{packages_in}
use Rattle.wac_resolution_expressions.specs.Growth.{given_in}
use Rattle.wac_resolution_statements.specs.declared.externs.Externs.{Externs}
use Rattle.wac_resolution_statements.specs.Statements.{placed_in}
use Rattle.wac_resolution.specs.Sequences.{BreaksAfter}

-- the target is met, if there is one, the composition is as before, and the graph's packages were supplied
pub record MeetsIn (context : Context) (rules : Rules) (old new : Parts) (root : Root)
    (targets : Option PackagePath) : Type 0 where
  pub supplied : AllSupplied (packages_in context) new
  pub kept : (numbering : Numbering) → composed numbering new root ≡ composed numbering old root
  pub met : (numbering : Numbering) → IsOneToOne numbering
      → MeetsTarget (given_in numbering context rules) (composed numbering old root) targets

-- the error says how the target is not met
pub record MissesIn (context : Context) (rules : Rules) (g : Parts) (root : Root) (x : Externs)
    (targets : Option PackagePath) (e : Error) : Type 0 where
  pub target : PackagePath
  pub has : targets ≡ Some target
  pub broken : (numbering : Numbering) → IsOneToOne numbering
      → TargetBroken (given_in numbering context rules) (composed numbering g root)
      (placed_in numbering g root x).places e target

-- the statements compose what the graph denotes with these names at root, the target is met, and the graph holds
-- packages that were supplied
pub record Composed (context : Context) (rules : Rules) (statements : List Statement) (targets : Option PackagePath)
    (g : Parts) : Type 0 where
  pub declared : Named ℕ
  pub supplied : AllSupplied (packages_in context) g
  pub composes : (numbering : Numbering) → IsOneToOne numbering
      → Composes (given_in numbering context rules) start statements (composition_of numbering g declared)
  pub met : (numbering : Numbering) → IsOneToOne numbering
      → MeetsTarget (given_in numbering context rules) (composition_of numbering g declared) targets

-- all statements compose, and the target breaks the rule that the error names
pub record TargetLast (s : Given) (statements : List Statement) (targets : Option PackagePath) (e : Error) : Type
    0 where
  pub target : PackagePath
  pub has : targets ≡ Some target
  pub whole : Placed
  pub leads : Steps (Leads s) (placed_start start) statements whole
  pub broken : TargetBroken s whole.composition whole.places e target

-- a statement breaks the rule that the error names, after those before it composed; or the target does, after all of
-- them
abbrev pub Breaks : Context → Rules → List Statement → Option PackagePath → Error → Type 0
Breaks context rules statements targets e = (numbering : Numbering) → IsOneToOne numbering
    → Fails (Leads (given_in numbering context rules)) (BreaksAfter (given_in numbering context rules) e) (placed_start start)
    statements ⊎ TargetLast (given_in numbering context rules) statements targets e
