-- Function types as they are resolved into a graph.
use Rattle.std.specs.Prelude.{List, [], ◌∷◌, Option, Some, Bool, true, false, codes}
use Rattle.wac_ast_grammar.specs.Tree.{Ty, NamedType, ResultList, FuncType}
use Rattle.wac_graph_types.specs.declared.kind.ItemKind.{ItemKind}
use Rattle.wac_graph_types.specs.declared.kind.ItemKind.TheVariants as kinds
use Rattle.wac_graph_types.specs.declared.kind.ValueType.{ValueType}
use Rattle.wac_graph_types.specs.declared.kind.ValueType.TheVariants as values
use Rattle.wac_graph_types.specs.declared.kind.FuncTypeId.{FuncTypeId}
use Rattle.wac_graph_types.specs.declared.kind.ResourceId.{ResourceId}
use Rattle.wac_graph_types.specs.declared.entry.Entry.{Entry}
use Rattle.wac_graph_types.specs.declared.entry.FuncResults.{FuncResults}
use Rattle.wac_graph_types.specs.Entry.{result_children}
use Rattle.wac_graph_types.specs.Meaning.{Meaning, EachKind}
use Rattle.wac_graph_types.specs.Scope.{Named, Scope}
use Rattle.wac_graph_types.specs.Shape.{results_mean}
use Rattle.wac_graph_types.specs.Table.{Names}
use Rattle.wac_graph.specs.Graph.{Parts}
use Rattle.wac_graph.specs.Means.{means, entry_means}
use Rattle.wac_graph.specs.Origin.{Numbering}
use Rattle.wac_resolution_rules.specs.Types.{HasParam, HasResultType, HasResult, HasResults, IsFuncWith, IsConstructor}
use Rattle.wac_resolution_state.specs.Growth.{GrowsPlainly}
use Rattle.wac_resolution_state.specs.Named.{scope_of}
use Rattle.wac_resolution_types.specs.NamedParts.{parts_mean, PartsNamed, PartStep, PartSteps}

-- the type of a part that always has one
abbrev pub given : ValueType → Option ValueType
given v = Some v

-- what parameters, fields and results with names mean
abbrev pub types_named : Numbering → Parts → Named ValueType → Named Meaning
types_named numbering g all = parts_mean given numbering g all

abbrev pub TypesNamed : List Entry → Named ValueType → Type 0
TypesNamed es all = PartsNamed given es all

abbrev pub ParamStep : Parts → Parts → Named ItemKind → Named ValueType → Named ValueType → NamedType → Type 0
ParamStep old new ks ps qs x = PartStep given HasParam old new ks ps qs x

abbrev pub ParamSteps : Parts → Parts → Named ItemKind → Named ValueType → Named ValueType → List NamedType → Type 0
ParamSteps old new ks ps qs xs = PartSteps given HasParam old new ks ps qs xs

-- the type of a result has these values
pub record ResultTypeIs (old new : Parts) (ks : Named ItemKind) (t : Ty) (v : ValueType) : Type 0 where
  pub grows : GrowsPlainly old new
  pub named : Names new.types (kinds.Value v)
  pub is : (numbering : Numbering) → HasResultType (scope_of numbering old ks) t (means numbering new (kinds.Value v))

-- a named result, and named results in order
abbrev pub ResultStep : Parts → Parts → Named ItemKind → Named ValueType → Named ValueType → NamedType → Type 0
ResultStep old new ks ps qs x = PartStep given HasResult old new ks ps qs x

abbrev pub ResultSteps : Parts → Parts → Named ItemKind → Named ValueType → Named ValueType → List NamedType → Type 0
ResultSteps old new ks ps qs xs = PartSteps given HasResult old new ks ps qs xs

-- the results of a function have these values
pub record ResultsAre (old new : Parts) (ks : Named ItemKind) (r : ResultList) (rs : FuncResults) : Type 0 where
  pub grows : GrowsPlainly old new
  pub named : EachKind (Names new.types) (result_children rs)
  pub are : (numbering : Numbering) → HasResults (scope_of numbering old ks) r (results_mean (entry_means numbering new) rs)

-- a function type was added, and this holds of its entry in the scope
pub record FuncAdded (old new : Parts) (ks : Named ItemKind) (holds : Numbering → Scope → Meaning → Type 0)
    (f : FuncTypeId) : Type 0 where
  pub grows : GrowsPlainly old new
  pub named : Names new.types (kinds.Func f)
  pub is : (numbering : Numbering) → holds numbering (scope_of numbering old ks) (entry_means numbering new f.0)

-- a function type, where these parameters come first
abbrev pub FuncIs : Parts → Parts → Named ItemKind → Named ValueType → FuncType → FuncTypeId → Type 0
FuncIs old new ks first f id =
    FuncAdded old new ks (λ numbering scope entry. IsFuncWith scope (types_named numbering old first) f entry) id

-- the function type of a constructor
abbrev pub ConstructorIs : Parts → Parts → Named ItemKind → ResourceId → List NamedType → FuncTypeId → Type 0
ConstructorIs old new ks resource params id =
    FuncAdded old new ks (λ numbering scope entry. IsConstructor scope (entry_means numbering old resource.0) params entry) id

-- what comes before the parameters of a method
abbrev pub own_params : Bool → ResourceId → Named ValueType
own_params true resource = []
own_params false resource = (codes "self", values.Borrow resource) ∷ []
