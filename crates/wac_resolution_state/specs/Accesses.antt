-- Accesses to the exports of instances.
use Rattle.std.specs.Prelude.{◌≡◌, ◌<◌, ℕ, List, length}
use Rattle.wac_graph_types.specs.declared.kind.ItemKind.{ItemKind}
use Rattle.wac_graph_types.specs.Scope.{Named}
use Rattle.wac_graph_types.specs.Steps.{Steps}
use Rattle.wac_ast_grammar.specs.Tree.{PostfixExpr}
use Rattle.wac_graph.specs.Graph.{Parts}
use Rattle.wac_graph.specs.Means.{means}
use Rattle.wac_graph.specs.Origin.{Numbering}
use Rattle.wac_resolution_rules.specs.Expressions.{at, alias_at, Accesses}
use Rattle.wac_resolution_state.specs.Nodes.{composition_of}
use Rattle.wac_resolution_state.specs.NodeGrowth.{GrowsNodes}

-- the node of the new graph is the alias of that export, of this kind, of the old one's node
pub record AliasStep (old new : Parts) (node : ℕ) (name : List ℕ) (k : ItemKind) (n : ℕ) : Type 0 where
  pub grows : GrowsNodes old new
  pub there : n < length new.nodes
  pub is : (numbering : Numbering) (declared : Named ℕ)
      → at (composition_of numbering new declared) n ≡ alias_at (at (composition_of numbering old declared) node) name
      (means numbering old k)

-- applied to the old graph's node, the access denotes the new one's
pub record AccessStep (old new : Parts) (node : ℕ) (p : PostfixExpr) (n : ℕ) : Type 0 where
  pub grows : GrowsNodes old new
  pub there : n < length new.nodes
  pub goes : (numbering : Numbering) (declared : Named ℕ)
      → Accesses (at (composition_of numbering old declared) node) p (at (composition_of numbering new declared) n)

-- accesses, in order
pub record AccessSteps (old new : Parts) (node : ℕ) (ps : List PostfixExpr) (n : ℕ) : Type 0 where
  pub grows : GrowsNodes old new
  pub there : n < length new.nodes
  pub go : (numbering : Numbering) (declared : Named ℕ)
      → Steps Accesses (at (composition_of numbering old declared) node) ps (at (composition_of numbering new declared) n)
