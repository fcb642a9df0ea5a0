-- A definition as it is added to a graph.
use Rattle.std.specs.Prelude.{◌≡◌}
use Rattle.wac_ast_grammar.specs.Tree.{Ident}
use Rattle.wac_graph_types.specs.declared.kind.ItemKind.{ItemKind}
use Rattle.wac_graph_types.specs.Scope.{with_named}
use Rattle.wac_graph.specs.Graph.{Parts}
use Rattle.wac_graph.specs.Means.{means, declared_count}
use Rattle.wac_graph.specs.Origin.{Numbering}
use Rattle.wac_resolution_rules.specs.TypeStatements.{Defines}
use Rattle.wac_resolution_state.specs.declared.root.Root.{Root}
use Rattle.wac_resolution_state.specs.Root.{composed, places, Agrees}
use Rattle.wac_resolution_statements.specs.declared.externs.Externs.{Externs}
use Rattle.wac_resolution_statements.specs.Externs.{imported_in, exported_in, ArePlaced}
use Rattle.wac_resolution_statements.specs.Exports.{GrowsExports}

-- a definition of the kind was added, exported under the identifier and bound to it
pub record IsDefined (old new : Parts) (before after : Root) (x y : Externs) (id : Ident) (k : ItemKind) : Type 0 where
  pub grows : GrowsExports old new
  pub agrees : Agrees new after
  pub placed : ArePlaced new y
  pub defines : (numbering : Numbering)
      → Defines (composed numbering old before) id.string (means numbering old k) (declared_count old)
      (composed numbering new after)
  pub bound : places after ≡ with_named (places before) id.string id.span
  pub imported : imported_in y ≡ imported_in x
  pub exported : exported_in y ≡ with_named (exported_in x) id.string id.span
