-- Statements that are executed in order.
use Rattle.std.specs.Prelude.{List}
use Rattle.wac_graph_types.specs.Steps.{Steps, Fails}
use Rattle.wac_ast_grammar.specs.Tree.{Statement}
use Rattle.wac_graph.specs.Graph.{Parts}
use Rattle.wac_graph.specs.Origin.{Numbering, IsOneToOne}
use Rattle.wac_resolution_errors.specs.Error.{Error}
use Rattle.wac_resolution_rules.specs.BrokenStatements.{StatementBroken}
use Rattle.wac_resolution_rules.specs.Given.{Given, Rules}
use Rattle.wac_resolution_rules.specs.Places.{Placed, Leads}
use Rattle.wac_resolution_state.specs.declared.root.Root.{Root}
use Rattle.wac_resolution_state.specs.declared.context.Context.{Context}
use Rattle.wac_resolution_expressions.specs.Growth.{given_in}
use Rattle.wac_resolution_statements.specs.declared.externs.Externs.{Externs}
use Rattle.wac_resolution_statements.specs.Statements.{Stand, placed_in}

-- all were executed: they take the old composition and places to the new ones, under every one-to-one numbering
pub record StatementsRun (context : Context) (rules : Rules) (old new : Parts) (before after : Root) (x y : Externs)
    (all : List Statement) : Type 0 where
  pub stand : Stand context new after y
  pub leads : (numbering : Numbering) → IsOneToOne numbering
      → Steps (Leads (given_in numbering context rules)) (placed_in numbering old before x) all (placed_in numbering new after y)

-- after others a statement breaks the rule that the error names
abbrev pub BreaksAfter : Given → Error → Placed → List Statement → Statement → Type 0
BreaksAfter s e p before x = StatementBroken s p.composition p.places e x

-- those before one were executed, and the error names a rule that this one breaks
abbrev pub OneBreaks : Context → Rules → Parts → Root → Externs → List Statement → Error → Type 0
OneBreaks context rules g root x all e = (numbering : Numbering) → IsOneToOne numbering
    → Fails (Leads (given_in numbering context rules)) (BreaksAfter (given_in numbering context rules) e)
    (placed_in numbering g root x) all
