-- What expressions begin with.
use Rattle.std.specs.Prelude.{◌<◌, ℕ, length}
use Rattle.wac_graph_types.specs.Scope.{Named}
use Rattle.wac_ast_grammar.specs.Tree.{PrimaryExpr}
use Rattle.wac_graph.specs.Graph.{Parts}
use Rattle.wac_graph.specs.Origin.{Numbering, IsOneToOne}
use Rattle.wac_resolution_errors.specs.Error.{Error}
use Rattle.wac_resolution_rules.specs.BrokenExpressions.{PrimaryBroken}
use Rattle.wac_resolution_rules.specs.Expressions.{at, PrimaryStands}
use Rattle.wac_resolution_rules.specs.Given.{Rules}
use Rattle.wac_resolution_state.specs.Nodes.{composition_of}
use Rattle.wac_resolution_state.specs.declared.context.Context.{Context}
use Rattle.wac_resolution_state.specs.Context.{packages_in}
use Rattle.wac_resolution_expressions.specs.Growth.{Extends, given_in}

-- it denotes this node of the new graph
pub record PrimaryStep (context : Context) (rules : Rules) (old new : Parts) (declared : Named ℕ) (x : PrimaryExpr)
    (n : ℕ) : Type 0 where
  pub extends : Extends (packages_in context) old new
  pub there : n < length new.nodes
  pub stands : (numbering : Numbering) → IsOneToOne numbering
      → PrimaryStands (given_in numbering context rules) (composition_of numbering old declared) x
      (at (composition_of numbering new declared) n)

-- the error names a rule that it breaks
abbrev pub PrimaryBreaks : Context → Rules → Parts → Named ℕ → PrimaryExpr → Error → Type 0
PrimaryBreaks context rules g declared x e = (numbering : Numbering) → IsOneToOne numbering
    → PrimaryBroken (given_in numbering context rules) (composition_of numbering g declared) e x
