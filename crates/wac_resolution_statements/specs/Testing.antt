-- What imports and exports are tested with, and what is found of each, under every numbering that is one to one.
use Rattle.std.specs.Prelude.{◌≡◌, ◌⊎◌, ℕ, List, Option, Some, None}
use Rattle.std.specs.List.{AllByRecursion}
use Rattle.wac_lexer.specs.Span.{Span}
use Rattle.wac_graph_types.specs.declared.kind.ExternKind.TheVariants as externs
use Rattle.wac_graph_types.specs.declared.rules.Reason.{Reason}
use Rattle.wac_graph_types.specs.Meaning.{Meaning}
use Rattle.wac_graph_types.specs.Scope.{Named, IsFresh, StandsFor}
use Rattle.wac_graph_types.specs.Shape.{promoted, described}
use Rattle.wac_ast_base.specs.Names.{package_path_of}
use Rattle.wac_ast_grammar.specs.Tree.{PackagePath}
use Rattle.wac_graph.specs.Graph.{Parts}
use Rattle.wac_graph.specs.Means.{entry_means}
use Rattle.wac_graph.specs.Origin.{Numbering, IsOneToOne}
use Rattle.wac_resolution_errors.specs.Error.{Error, import_not_in_target, missing_target_export, target_mismatch}
use Rattle.wac_resolution_state.specs.Nodes.{composition_of}
use Rattle.wac_resolution_rules.specs.BrokenExpressions.{ReachedAt}
use Rattle.wac_resolution_rules.specs.Composition.{Composition, kind_at}
use Rattle.wac_resolution_rules.specs.Given.{Given, Rules}
use Rattle.wac_resolution_rules.specs.Paths.{Context}
use Rattle.wac_resolution_rules.specs.Target.{allowed, ImportAllowed, ExportMet}
use Rattle.wac_resolution_statements.specs.declared.target.Target.{Target}

-- what is given: the context, and rules
abbrev pub given_by : Rules → Context → Given
given_by rules context = record { context = context; rules = rules }

-- a graph, rules, and a target: its path and the number of its world
pub record Testing : Type 0 where
  pub graph : Parts
  pub rules : Rules
  pub path : PackagePath
  pub world : ℕ

abbrev pub testing : Parts → Rules → Target → Testing
testing g rules target =
    record { graph = g; rules = rules; path = package_path_of target.path.now; world = target.world.0 }

abbrev pub given_in : Testing → Context → Given
given_in t context = given_by t.rules context

abbrev pub world_in : Testing → Numbering → Meaning
world_in t numbering = entry_means numbering t.graph t.world

-- the error says how the first of a list that does not pass fails
abbrev pub FirstFails : {X : Type 0} → (X → Type 0) → (X → Error → Type 0) → List X → Error → Type 0
FirstFails {X = X} Passes Failing all e = (x : X) × ReachedAt Passes all x × Failing x e

-- ---- imports

-- a name, and what is imported under it
abbrev pub Import : Type 0
Import = Numbering → List ℕ × Meaning

abbrev pub Allowed : Testing → Import → Type 0
Allowed t x = (numbering : Numbering) (context : Context) → IsOneToOne numbering
    → ImportAllowed (given_in t context) (world_in t numbering) (x numbering)

-- the error says why an import at a place is not allowed
abbrev pub IsDenied : Given → PackagePath → Meaning → (List ℕ × Meaning) × Option Span → Error → Type 0
IsDenied s path w x e = ((allowed w x.0.0 ≡ None) × (e ≡ import_not_in_target x.0.0 path.string x.1))
    ⊎ ((k : Meaning) × (r : Reason) × (allowed w x.0.0 ≡ Some k) × (s.rules.passes (promoted k) x.0.1 ≡ Some r)
    × (e ≡ target_mismatch externs.Import x.0.0 path.string r x.1))

abbrev pub Denied : Testing → Import → Option Span → Error → Type 0
Denied t x span e = (numbering : Numbering) (context : Context) → IsOneToOne numbering
    → IsDenied (given_in t context) t.path (world_in t numbering) (x numbering, span) e

-- ---- exports

-- a name, and what is exported under it
abbrev pub Met : Testing → Import → Type 0
Met t x = (numbering : Numbering) (context : Context) (declared : Named ℕ) → IsOneToOne numbering
    → ExportMet (given_in t context) (composition_of numbering t.graph declared) (x numbering)

-- the error says how an export of the target is not met
abbrev pub IsUnmet : Given → Composition → Named Span → PackagePath → List ℕ × Meaning → Error → Type 0
IsUnmet s c places path x e =
    (IsFresh x.0 c.exports × (e ≡ missing_target_export x.0 path.string (described x.1) path.span))
    ⊎ ((node : ℕ) × (r : Reason) × (span : Span) × StandsFor c.exports x.0 node
    × (s.rules.passes (kind_at c.nodes node) (promoted x.1) ≡ Some r)
    × StandsFor places x.0 span × (e ≡ target_mismatch externs.Export x.0 path.string r (Some span)))

abbrev pub Unmet : Testing → Named Span → Import → Error → Type 0
Unmet t places x e = (numbering : Numbering) (context : Context) (declared : Named ℕ) → IsOneToOne numbering
    → IsUnmet (given_in t context) (composition_of numbering t.graph declared) places t.path (x numbering) e

-- ---- all of a list

-- what an element is as an import or export
abbrev pub Reading : Type 0 → Type 0
Reading X = X → Import

abbrev pub AllAllowed : {X : Type 0} → Testing → Reading X → List X → Type 0
AllAllowed t read all = AllByRecursion (λ x. Allowed t (read x)) all

abbrev pub SomeDenied : {X : Type 0} → Testing → Reading X → (X → Option Span) → List X → Error → Type 0
SomeDenied t read place all e = FirstFails (λ x. Allowed t (read x)) (λ x f. Denied t (read x) (place x) f) all e

-- no place
abbrev pub nowhere : {X : Type 0} → X → Option Span
nowhere x = None

abbrev pub AllMet : {X : Type 0} → Testing → Reading X → List X → Type 0
AllMet t read all = AllByRecursion (λ x. Met t (read x)) all

abbrev pub SomeUnmet : {X : Type 0} → Testing → Named Span → Reading X → List X → Error → Type 0
SomeUnmet t places read all e = FirstFails (λ x. Met t (read x)) (λ x f. Unmet t places (read x) f) all e
