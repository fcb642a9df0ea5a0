-- Arguments that are given.
use Rattle.std.specs.Prelude.{◌≡◌, ℕ, List, Bool, true, false}
use Rattle.wac_lexer.specs.Span.{Span}
use Rattle.wac_ast_grammar.specs.Tree.{Arguments, InstantiationArgument}
use Rattle.wac_graph_types.specs.declared.kind.WorldId.{WorldId}
use Rattle.wac_graph_types.specs.Package.{PackageParts}
use Rattle.wac_graph_types.specs.Scope.{Named, IsFresh, StandsFor, with_named}
use Rattle.wac_graph.specs.declared.node.NodeId.{NodeId}
use Rattle.wac_graph.specs.Graph.{Parts}
use Rattle.wac_graph.specs.Origin.{Numbering, IsOneToOne}
use Rattle.wac_graph.specs.Package.{Key}
use Rattle.wac_resolution_errors.specs.Error.{Error, duplicate_instantiation_arg}
use Rattle.wac_resolution_rules.specs.BrokenExpressions.{ArgumentBroken, ArgumentsBroken}
use Rattle.wac_resolution_rules.specs.Expressions.{Giving, Gives, GivesOne}
use Rattle.wac_resolution_rules.specs.Given.{Rules}
use Rattle.wac_resolution_state.specs.declared.context.Context.{Context}
use Rattle.wac_resolution_state.specs.Context.{packages_in}
use Rattle.wac_resolution_expressions.specs.Arguments.{given_nodes}
use Rattle.wac_resolution_expressions.specs.Spreads.{giving_of, imports_at, GivenThere}
use Rattle.wac_resolution_expressions.specs.Growth.{Extends, given_in}

-- whether no argument is left
abbrev pub is_none : Arguments → Bool
is_none Arguments.none = true
is_none (Arguments.more a rest) = false

-- the node was given for the name, for which none was given before
pub record GivesNode (before after : Named NodeId) (name : List ℕ) (node : NodeId) : Type 0 where
  pub fresh : IsFresh name before
  pub is : after ≡ with_named before name node

-- one is given for it already
abbrev pub IsGiven : Named NodeId → List ℕ → Span → Error → Type 0
IsGiven before name span e = (n : ℕ) × StandsFor (given_nodes before) name n
    × (e ≡ duplicate_instantiation_arg name span)

-- the same of a name that is meant
pub record GivesFor (before after : Named NodeId) (meant : Numbering → List ℕ) (node : NodeId) : Type 0 where
  pub is : (numbering : Numbering) → GivesNode before after (meant numbering) node

abbrev pub IsGivenFor : Named NodeId → (Numbering → List ℕ) → Span → Error → Type 0
IsGivenFor before meant span e = (numbering : Numbering) → IsGiven before (meant numbering) span e

-- nodes were given while the graph was extended, and this holds of what was given before and after
pub record GivesOn (packages : List (Key × PackageParts)) (old new : Parts) (before after : Named NodeId)
    (declared : Named ℕ) (holds : Numbering → Giving → Giving → Type 0) : Type 0 where
  pub extends : Extends packages old new
  pub there : GivenThere new after
  pub is : (numbering : Numbering) → IsOneToOne numbering
      → holds numbering (giving_of numbering old declared before) (giving_of numbering new declared after)

-- an argument is given, the last one or one before others
abbrev pub ArgumentStep : Context → Rules → Parts → Parts → Named NodeId → Named NodeId → Named ℕ → WorldId → Bool
    → InstantiationArgument → Type 0
ArgumentStep context rules old new before after declared w is_last x =
    GivesOn (packages_in context) old new before after declared
    (λ numbering a b. (rest : Arguments) → is_none rest ≡ is_last
    → GivesOne (given_in numbering context rules) (imports_at numbering old w) rest a x b)

abbrev pub ArgumentBreaks : Context → Rules → Parts → Named NodeId → Named ℕ → WorldId → Bool → InstantiationArgument
    → Error → Type 0
ArgumentBreaks context rules g before declared w is_last x e = (numbering : Numbering) (rest : Arguments) → IsOneToOne numbering
    → is_none rest ≡ is_last
    → ArgumentBroken (given_in numbering context rules) (imports_at numbering g w) rest (giving_of numbering g declared before) e
    x

-- the arguments that aren't spreads are given in order
abbrev pub ArgumentSteps : Context → Rules → Parts → Parts → Named NodeId → Named NodeId → Named ℕ → WorldId → Arguments
    → Type 0
ArgumentSteps context rules old new before after declared w args = GivesOn (packages_in context) old new before after
    declared (λ numbering a b. Gives (given_in numbering context rules) (imports_at numbering old w) a args b)

abbrev pub ArgumentsBreak : Context → Rules → Parts → Named NodeId → Named ℕ → WorldId → Arguments → Error → Type 0
ArgumentsBreak context rules g before declared w args e = (numbering : Numbering) → IsOneToOne numbering
    → ArgumentsBroken (given_in numbering context rules) (imports_at numbering g w) (giving_of numbering g declared before) e
    args
