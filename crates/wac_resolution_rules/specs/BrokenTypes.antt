-- Which rule of types an error says is broken. `Is..` is one rule; `..Broken` says where rules are tested, each after
-- the tests before it passed.
use Rattle.std.specs.Prelude.{◌≡◌, ◌⊎◌, ℕ, List, [], Bool, true}
use Rattle.wac_lexer.specs.Span.{Span}
use Rattle.wac_graph_types.specs.Kind.{Form}
use Rattle.wac_graph_types.specs.declared.kind.FuncKind.{FuncKind}
use Rattle.wac_graph_types.specs.Meaning.{Meaning}
use Rattle.wac_graph_types.specs.Scope.{Named, Scope, StandsFor, IsFresh}
use Rattle.wac_graph_types.specs.Steps.{Steps, Fails}
use Rattle.wac_graph_types.specs.Shape.{IsNoneOf, is_resource_form, is_resource_or_value_form, described, contains_borrow}
use Rattle.wac_ast_grammar.specs.Tree.{Ident, Ty, OptionalTy, Types, NamedType, ResultList, FuncType}
use Rattle.wac_ast_grammar.specs.Spans.{ty_span}
use Rattle.wac_resolution_errors.specs.Error.{Error, undefined_name, not_resource_type, not_value_type, duplicate_parameter, duplicate_result, borrow_in_result}
use Rattle.wac_resolution_rules.specs.Types.{HasType, HasOptional, HasParam, HasResultType, HasResult}

-- ---- names

-- the identifier denotes nothing
abbrev pub IsUndefined : {X : Type 0} → Named X → Ident → Error → Type 0
IsUndefined all x e = IsFresh x.string all × (e ≡ undefined_name x.string x.span)

-- what the identifier denotes is of no form that passes the test, which the error says of it
abbrev pub DenotesNo : (Form → Bool) → (List ℕ → List ℕ → Span → Error) → Scope → Ident → Error → Type 0
DenotesNo test error scope x e = (k : Meaning) × StandsFor scope x.string k × IsNoneOf test k
    × (e ≡ error x.string (described k) x.span)

-- the name is among the names already, which the error says
abbrev pub IsRepeated : {X : Type 0} → Named X → List ℕ → Error → Error → Type 0
IsRepeated {X} names name error e = (x : X) × StandsFor names name x × (e ≡ error)

-- the name is among the names already, and the error says where
abbrev pub IsTaken : {X : Type 0} → Named X → Named Span → List ℕ → (Span → Error) → Error → Type 0
IsTaken {X} names places name error e = (x : X) × (previous : Span) × StandsFor names name x
    × StandsFor places name previous × (e ≡ error previous)

-- ---- types of values

abbrev mutual
  -- the first part of a type that has no meaning
  pub TypeBroken : Scope → Ty → Error → Type 0
  TypeBroken scope (Ty.tuple ts s) e = TypesBroken scope ts e
  TypeBroken scope (Ty.list t s) e = TypeBroken scope t e
  TypeBroken scope (Ty.option t s) e = TypeBroken scope t e
  TypeBroken scope (Ty.result o r s) e = OptionalBroken scope o e
      ⊎ ((v : Meaning) × HasOptional scope o v × OptionalBroken scope r e)
  TypeBroken scope (Ty.borrow x s) e = IsUndefined scope x e ⊎ DenotesNo is_resource_form not_resource_type scope x e
  TypeBroken scope (Ty.stream t s) e = OptionalBroken scope t e
  TypeBroken scope (Ty.future t s) e = OptionalBroken scope t e
  TypeBroken scope (Ty.ident x) e = IsUndefined scope x e
      ⊎ DenotesNo is_resource_or_value_form not_value_type scope x e
  TypeBroken scope _ e = ⊥

  pub OptionalBroken : Scope → OptionalTy → Error → Type 0
  OptionalBroken scope OptionalTy.absent e = ⊥
  OptionalBroken scope (OptionalTy.present t) e = TypeBroken scope t e

  pub TypesBroken : Scope → Types → Error → Type 0
  TypesBroken scope Types.none e = ⊥
  TypesBroken scope (Types.more t ts) e = TypeBroken scope t e
      ⊎ ((v : Meaning) × HasType scope t v × TypesBroken scope ts e)

-- ---- function types

-- the parameter's type has no meaning; or an earlier one has its name, or the name is a method's own
abbrev pub ParamBroken : FuncKind → Scope → Error → Named Meaning → List NamedType → NamedType → Type 0
ParamBroken kind scope e old before p = TypeBroken scope p.ty e ⊎ ((v : Meaning) × HasType scope p.ty v
    × IsRepeated old p.id.string (duplicate_parameter kind p.id.string p.id.span) e)

abbrev pub ParamsBroken : FuncKind → Scope → Named Meaning → List NamedType → Error → Type 0
ParamsBroken kind scope first ps e = Fails (HasParam scope) (ParamBroken kind scope e) first ps

-- the result contains a borrow
abbrev pub IsBorrowInResult : Scope → Ty → Error → Type 0
IsBorrowInResult scope t e = (v : Meaning) × HasType scope t v × (contains_borrow v ≡ true)
    × (e ≡ borrow_in_result (ty_span t))

abbrev pub ResultTypeBroken : Scope → Ty → Error → Type 0
ResultTypeBroken scope t e = TypeBroken scope t e ⊎ IsBorrowInResult scope t e

-- the result's type is none of a result, or an earlier one has its name
abbrev pub ResultBroken : FuncKind → Scope → Error → Named Meaning → List NamedType → NamedType → Type 0
ResultBroken kind scope e old before r = ResultTypeBroken scope r.ty e ⊎ ((v : Meaning) × HasResultType scope r.ty v
    × IsRepeated old r.id.string (duplicate_result kind r.id.string r.id.span) e)

abbrev pub ResultsBroken : FuncKind → Scope → ResultList → Error → Type 0
ResultsBroken kind scope ResultList.empty e = ⊥
ResultsBroken kind scope (ResultList.scalar t) e = ResultTypeBroken scope t e
ResultsBroken kind scope (ResultList.named xs) e = Fails (HasResult scope) (ResultBroken kind scope e) [] xs

-- a function type, where these parameters come first
abbrev pub FuncBroken : FuncKind → Scope → Named Meaning → FuncType → Error → Type 0
FuncBroken kind scope first f e =
    ParamsBroken kind scope first f.params e
    ⊎ ((ps : Named Meaning) × Steps (HasParam scope) first f.params ps × ResultsBroken kind scope f.results e)
