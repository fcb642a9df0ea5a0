-- Declarations of types as they are resolved into a graph.
use Rattle.std.specs.Prelude.{◌≡◌, ℕ, List, [], map, Option, Some, None, IfSome, string_bytes, String}
use Rattle.std.specs.declared.alloc.Global.{Global}
use Rattle.wac_ast_grammar.specs.Tree.{Ty, VariantCase, Field}
use Rattle.wac_graph_types.specs.declared.kind.ItemKind.{ItemKind}
use Rattle.wac_graph_types.specs.declared.kind.ItemKind.TheVariants as kinds
use Rattle.wac_graph_types.specs.declared.kind.«Type».TheVariants as types
use Rattle.wac_graph_types.specs.declared.kind.ValueType.{ValueType}
use Rattle.wac_graph_types.specs.Entry.{optional}
use Rattle.wac_graph_types.specs.Meaning.{Meaning}
use Rattle.wac_graph_types.specs.Scope.{Named}
use Rattle.wac_graph_types.specs.Shape.{nothing, optional_means}
use Rattle.wac_graph_types.specs.Table.{Names}
use Rattle.wac_graph.specs.Graph.{Parts}
use Rattle.wac_graph.specs.Means.{means, entry_means, declared_count}
use Rattle.wac_graph.specs.Origin.{Numbering}
use Rattle.wac_resolution_rules.specs.Declarations.{HasOption, HasCase, HasField, Aliasing, Counted, at_root, in_body}
use Rattle.wac_resolution_types.specs.declared.place.Place.{Place}
use Rattle.wac_resolution_types.specs.declared.place.Place.TheVariants as places
use Rattle.wac_resolution_state.specs.Growth.{Grows, GrowsPlainly}
use Rattle.wac_resolution_state.specs.Named.{scope_of}
use Rattle.wac_resolution_types.specs.NamedParts.{parts_mean, PartStep, PartSteps}
use Rattle.wac_resolution_types.specs.Funcs.{given}

-- the type of a part that may have none
abbrev pub perhaps : Option ValueType → Option ValueType
perhaps v = v

-- what cases mean
abbrev pub cases_named : Numbering → Parts → Named (Option ValueType) → Named Meaning
cases_named numbering g all = parts_mean perhaps numbering g all

abbrev pub CaseStep : Parts → Parts → Named ItemKind → Named (Option ValueType) → Named (Option ValueType) → VariantCase
    → Type 0
CaseStep old new ks ps qs x = PartStep perhaps HasCase old new ks ps qs x

abbrev pub CaseSteps : Parts → Parts → Named ItemKind → Named (Option ValueType) → Named (Option ValueType)
    → List VariantCase → Type 0
CaseSteps old new ks ps qs xs = PartSteps perhaps HasCase old new ks ps qs xs

abbrev pub FieldStep : Parts → Parts → Named ItemKind → Named ValueType → Named ValueType → Field → Type 0
FieldStep old new ks ps qs x = PartStep given HasField old new ks ps qs x

abbrev pub FieldSteps : Parts → Parts → Named ItemKind → Named ValueType → Named ValueType → List Field → Type 0
FieldSteps old new ks ps qs xs = PartSteps given HasField old new ks ps qs xs

-- the type of a case, which may have none, has these values
pub record CaseTypeIs (old new : Parts) (ks : Named ItemKind) (t : Option Ty) (v : Option ValueType) : Type 0 where
  pub grows : GrowsPlainly old new
  pub named : IfSome (optional v) (Names new.types)
  pub is : (numbering : Numbering) → HasOption (scope_of numbering old ks) t (optional_means (entry_means numbering new) v)

-- names alone, as flags and the cases of an enum
abbrev pub names_alone : List (String Global) → Named Meaning
names_alone names = map (λ n. (string_bytes n, nothing)) names

-- a type of values was added, and this holds of it as an item of its own
pub record ValueAdded (old new : Parts) (holds : Numbering → Meaning → Type 0) (v : ValueType) : Type 0 where
  pub grows : GrowsPlainly old new
  pub named : Names new.types (kinds.Value v)
  pub is : (numbering : Numbering) → holds numbering (means numbering new (kinds.Ty (types.Value v)))

-- a kind was added, and this holds of it and of how many resources are declared now
pub record KindAdded (old new : Parts) (holds : Numbering → Meaning → ℕ → Type 0) (k : ItemKind) : Type 0 where
  pub grows : Grows old new
  pub named : Names new.types k
  pub is : (numbering : Numbering) → holds numbering (means numbering new k) (declared_count new)

-- ---- aliases

-- what an identifier in an alias makes there
abbrev pub aliasing_at : Place → Numbering → Aliasing
aliasing_at places.Root numbering = at_root
aliasing_at places.Body numbering = in_body numbering

-- what is made of the meaning of a kind, with how many resources are declared then, if it can be aliased
abbrev pub Making : Type 0
Making = Numbering → Meaning → Option Counted

-- at root the name does not matter
abbrev pub made_at_root : Parts → Making
made_at_root g numbering m = at_root (declared_count g) [] m

abbrev pub made_in_body : Parts → List ℕ → Making
made_in_body g name numbering m = in_body numbering (declared_count g) name m

abbrev pub made_at : Place → Parts → List ℕ → Making
made_at place g name numbering m = aliasing_at place numbering (declared_count g) name m

-- another name of the kind was made
pub record IsAliased (old new : Parts) (making : Making) (k made : ItemKind) : Type 0 where
  pub grows : Grows old new
  pub named : Names new.types made
  pub is : (numbering : Numbering) → making numbering (means numbering old k) ≡ Some (means numbering new made, declared_count new)

-- the kind can't be aliased
pub record IsNotAliased (old : Parts) (making : Making) (k : ItemKind) : Type 0 where
  pub is : (numbering : Numbering) → making numbering (means numbering old k) ≡ None
