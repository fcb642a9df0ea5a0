-- Where arguments are.
use Rattle.std.specs.Prelude.{ℕ, [], Option, Some, None, map, IsSome}
use Rattle.std.specs.List.{AllByRecursion}
use Rattle.wac_lexer.specs.Span.{Span}
use Rattle.wac_ast_grammar.specs.Tree.{Arguments}
use Rattle.wac_graph_types.specs.declared.kind.WorldId.{WorldId}
use Rattle.wac_graph_types.specs.Meaning.{Meaning}
use Rattle.wac_graph_types.specs.Scope.{Named, look_up}
use Rattle.wac_graph_types.specs.Shape.{exports_of}
use Rattle.wac_graph.specs.declared.node.NodeId.{NodeId}
use Rattle.wac_graph.specs.Graph.{Parts}
use Rattle.wac_graph.specs.Origin.{Numbering, IsOneToOne}
use Rattle.wac_resolution_rules.specs.BrokenExpressions.{own_places, argument_places}
use Rattle.wac_resolution_state.specs.Nodes.{composition_of}
use Rattle.wac_resolution_expressions.specs.Arguments.{given_nodes}
use Rattle.wac_resolution_expressions.specs.Spreads.{imports_at}

-- what an instance exports, all at one span
abbrev pub exports_at : Span → Option Meaning → Named Span
exports_at span None = []
exports_at span (Some i) = map (λ x. (x.0, span)) (exports_of i)

-- each argument that is given is among those that aren't spreads
abbrev pub StandThemselves : Parts → Named ℕ → WorldId → Arguments → Named NodeId → Type 0
StandThemselves g declared w args given = (numbering : Numbering) → IsOneToOne numbering
    → AllByRecursion (λ a. IsSome
    (look_up a.0 (own_places (composition_of numbering g declared) (imports_at numbering g w) args))) (given_nodes given)

-- each is among them, or a spread gives it
abbrev pub StandSomewhere : Parts → Named ℕ → WorldId → Arguments → Named NodeId → Type 0
StandSomewhere g declared w args given = (numbering : Numbering) → IsOneToOne numbering
    → AllByRecursion (λ a. IsSome
    (look_up a.0 (argument_places (composition_of numbering g declared) (imports_at numbering g w) args)))
    (given_nodes given)
