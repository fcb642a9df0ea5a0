-- What a graph gets as expressions are resolved: more types, packages and nodes, or names for nodes, and nothing else.
use Rattle.std.specs.Prelude.{◌≡◌, ◌<◌, ℕ, List, Some, length, slice_get}
use Rattle.wac_graph_types.specs.declared.kind.ItemKind.{ItemKind}
use Rattle.wac_graph_types.specs.Growth.{KeepsNames}
use Rattle.wac_graph_types.specs.Package.{PackageParts}
use Rattle.wac_graph_types.specs.Scope.{Named}
use Rattle.wac_graph_types.specs.Table.{Names}
use Rattle.wac_ast_grammar.specs.Tree.{Expr}
use Rattle.wac_graph.specs.Graph.{Parts}
use Rattle.wac_graph.specs.Means.{means, declared_count}
use Rattle.wac_graph.specs.Origin.{Numbering, IsOneToOne}
use Rattle.wac_graph.specs.Package.{Key, HeldPackage}
use Rattle.wac_resolution_errors.specs.Error.{Error}
use Rattle.wac_resolution_rules.specs.BrokenExpressions.{ExprBroken}
use Rattle.wac_resolution_rules.specs.Expressions.{at, Stands}
use Rattle.wac_resolution_rules.specs.Given.{Given, Rules}
use Rattle.wac_resolution_state.specs.Nodes.{composition_of, kind_in, NodesStand}
use Rattle.wac_resolution_state.specs.declared.context.Context.{Context}
use Rattle.wac_resolution_state.specs.Expands.{AllSupplied}
use Rattle.wac_resolution_state.specs.Context.{packages_in, context_of}

-- no resource was declared, each package and each node stays, and each kind means what it meant
pub record Extends (packages : List (Key × PackageParts)) (old new : Parts) : Type 0 where
  pub same : new ≡ record old { types = new.types; packages = new.packages; nodes = new.nodes }
  pub held : (i : ℕ) (p : HeldPackage) → slice_get old.packages i ≡ Some p → slice_get new.packages i ≡ Some p
  pub named : KeepsNames old.types new.types
  pub kinds : (numbering : Numbering) (k : ItemKind) → Names old.types k → means numbering new k ≡ means numbering old k
  pub nodes : (n : ℕ) (k : ItemKind) → kind_in old.nodes n ≡ Some k → kind_in new.nodes n ≡ Some k
  pub stand : NodesStand new
  pub supplied : AllSupplied packages new
  pub count : declared_count new ≡ declared_count old

-- what a document is resolved with
abbrev pub given_in : Numbering → Context → Rules → Given
given_in numbering context rules = record { context = context_of numbering context; rules = rules }

-- the expression denotes this node of the new graph
pub record ExprStep (context : Context) (rules : Rules) (old new : Parts) (declared : Named ℕ) (x : Expr) (n : ℕ) : Type
    0 where
  pub extends : Extends (packages_in context) old new
  pub there : n < length new.nodes
  pub stands : (numbering : Numbering) → IsOneToOne numbering
      → Stands (given_in numbering context rules) (composition_of numbering old declared) x
      (at (composition_of numbering new declared) n)

-- the error names a rule that the expression breaks
abbrev pub ExprBreaks : Context → Rules → Parts → Named ℕ → Expr → Error → Type 0
ExprBreaks context rules g declared x e = (numbering : Numbering) → IsOneToOne numbering
    → ExprBroken (given_in numbering context rules) (composition_of numbering g declared) e x
