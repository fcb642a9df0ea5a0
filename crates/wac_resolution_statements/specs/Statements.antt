-- Statements that are executed in a graph, with the names at root and the places of imports and exports beside it.
use Rattle.wac_ast_grammar.specs.Tree.{Statement}
use Rattle.wac_graph.specs.Graph.{Parts}
use Rattle.wac_graph.specs.Origin.{Numbering, IsOneToOne}
use Rattle.wac_resolution_errors.specs.Error.{Error}
use Rattle.wac_resolution_rules.specs.BrokenStatements.{StatementBroken}
use Rattle.wac_resolution_rules.specs.Given.{Rules}
use Rattle.wac_resolution_rules.specs.Places.{Placed, Leads}
use Rattle.wac_resolution_state.specs.declared.root.Root.{Root}
use Rattle.wac_resolution_state.specs.Root.{composed, Agrees}
use Rattle.wac_resolution_state.specs.declared.context.Context.{Context}
use Rattle.wac_resolution_state.specs.Expands.{AllSupplied}
use Rattle.wac_resolution_state.specs.Context.{packages_in}
use Rattle.wac_resolution_expressions.specs.Growth.{given_in}
use Rattle.wac_resolution_statements.specs.declared.externs.Externs.{Externs}
use Rattle.wac_resolution_statements.specs.Externs.{places_in, ArePlaced}

-- the names at root, the places of imports and exports, and the packages are those of the graph
pub record Stand (context : Context) (g : Parts) (root : Root) (x : Externs) : Type 0 where
  pub agrees : Agrees g root
  pub placed : ArePlaced g x
  pub supplied : AllSupplied (packages_in context) g

-- the composition, and where names were bound, imported and exported
abbrev pub placed_in : Numbering → Parts → Root → Externs → Placed
placed_in numbering g root x = record { composition = composed numbering g root; places = places_in root x }

-- the statement was executed: it takes the old composition and places to the new ones, under every one-to-one numbering
pub record StatementRun (context : Context) (rules : Rules) (old new : Parts) (before after : Root) (x y : Externs)
    (s : Statement) : Type 0 where
  pub stand : Stand context new after y
  pub leads : (numbering : Numbering) → IsOneToOne numbering
      → Leads (given_in numbering context rules) (placed_in numbering old before x) s (placed_in numbering new after y)

-- the error names a rule that the statement breaks
abbrev pub Breaks : Context → Rules → Parts → Root → Externs → Statement → Error → Type 0
Breaks context rules g root x s e = (numbering : Numbering) → IsOneToOne numbering
    → StatementBroken (given_in numbering context rules) (composed numbering g root) (places_in root x) e s
