-- Named parts that are taken in order: parameters, fields, cases. Each part is read as a type of values or as none.
use Rattle.std.specs.Prelude.{◌≡◌, List, map, Option, IfSome}
use Rattle.std.specs.List.{AllByRecursion}
use Rattle.wac_ast_grammar.specs.Tree.{Ident}
use Rattle.wac_graph_types.specs.declared.kind.ItemKind.{ItemKind}
use Rattle.wac_graph_types.specs.declared.kind.ValueType.{ValueType}
use Rattle.wac_graph_types.specs.declared.entry.Entry.{Entry}
use Rattle.wac_graph_types.specs.Entry.{optional}
use Rattle.wac_graph_types.specs.Meaning.{Meaning}
use Rattle.wac_graph_types.specs.Scope.{Named, Scope, IsFresh, with_named}
use Rattle.wac_graph_types.specs.Shape.{optional_means}
use Rattle.wac_graph_types.specs.Steps.{Steps}
use Rattle.wac_graph_types.specs.Table.{Names}
use Rattle.wac_graph.specs.Graph.{Parts}
use Rattle.wac_graph.specs.Means.{entry_means}
use Rattle.wac_graph.specs.Origin.{Numbering}
use Rattle.wac_resolution_state.specs.Growth.{GrowsPlainly}
use Rattle.wac_resolution_state.specs.Named.{scope_of}

-- what the parts mean, under a numbering of origins
abbrev pub parts_mean : {V : Type 0} → (V → Option ValueType) → Numbering → Parts → Named V → Named Meaning
parts_mean read numbering g all = map (λ e. (e.0, optional_means (entry_means numbering g) (read e.1))) all

-- each type among them names an entry of the table
abbrev pub PartsNamed : {V : Type 0} → (V → Option ValueType) → List Entry → Named V → Type 0
PartsNamed read es all = AllByRecursion (λ e. IfSome (optional (read e.1)) (Names es)) all

-- a step by one part, in a scope
abbrev pub PartRelation : Type 0 → Type 1
PartRelation X = Scope → Named Meaning → X → Named Meaning → Type 0

-- a part has a meaning, and no earlier one has its name
abbrev pub HasPart : {X : Type 0} → (Scope → X → Meaning → Type 0) → (X → Ident) → PartRelation X
HasPart has id scope old x new = (v : Meaning) × has scope x v × IsFresh (id x).string old
    × (new ≡ with_named old (id x).string v)

-- a part takes the old graph and parts to the new ones
pub record PartStep {V X : Type 0} (read : V → Option ValueType) (step : PartRelation X) (old new : Parts)
    (ks : Named ItemKind) (ps qs : Named V) (x : X) : Type 0 where
  pub grows : GrowsPlainly old new
  pub named : PartsNamed read new.types qs
  pub goes : (numbering : Numbering)
      → step (scope_of numbering old ks) (parts_mean read numbering old ps) x (parts_mean read numbering new qs)

-- so do parts in order
pub record PartSteps {V X : Type 0} (read : V → Option ValueType) (step : PartRelation X) (old new : Parts)
    (ks : Named ItemKind) (ps qs : Named V) (xs : List X) : Type 0 where
  pub grows : GrowsPlainly old new
  pub named : PartsNamed read new.types qs
  pub go : (numbering : Numbering)
      → Steps (step (scope_of numbering old ks)) (parts_mean read numbering old ps) xs (parts_mean read numbering new qs)
