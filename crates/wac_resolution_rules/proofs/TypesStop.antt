-- A type or declaration that breaks a rule has no meaning.
use Rattle.wac_resolution_rules.proofs.Common.{◌≡◌, ◌⊎◌, inl, inr, ℕ, List, [], Some, None, Option, Bool, true, false, sym, ◌∙◌, ap, subst, Form, Slot, Meaning, Named, Scope, StandsFor, IsFresh, Steps, IsA, IsNoneOf, contains_borrow, Ident, Ty, OptionalTy, Types, NamedType, ResultList, FuncType, VariantCase, VariantDecl, Field, RecordDecl, Flag, FlagsDecl, EnumCase, EnumDecl, TypeAliasKind, TypeDecl, Error}
use Rattle.wac_graph_types.specs.declared.kind.FuncKind.{FuncKind}
use Rattle.wac_graph_types.specs.declared.kind.FuncKind.TheVariants as funcs
use Rattle.wac_graph_types.specs.Shape.{is_resource_form, is_resource_or_value_form}
use Rattle.wac_resolution_errors.specs.Error.{duplicate_enum_case, duplicate_flag, not_resource_type, not_value_type}
use Rattle.wac_resolution_rules.specs.Types.{HasType, HasOptional, HaveTypes, HasParam, HasResultType, HasResult, HasResults, IsFuncWith}
use Rattle.wac_resolution_rules.specs.Declarations.{HasOption, HasCase, HasField, HasFlag, HasEnumCase, IsVariant, IsRecord, IsFlags, IsEnum, Aliasing, at_root, alone, IsTypeAlias, IsAlias, IsTypeDecl}
use Rattle.wac_resolution_rules.specs.BrokenTypes.{IsUndefined, DenotesNo, TypeBroken, OptionalBroken, TypesBroken, ParamBroken, ParamsBroken, ResultTypeBroken, ResultBroken, ResultsBroken, FuncBroken}
use Rattle.wac_resolution_rules.specs.BrokenDeclarations.{IsRepeatedPart, OptionBroken, CaseBroken, FieldBroken, VariantBroken, RecordBroken, FlagsBroken, EnumBroken, TypeAliasBroken, AliasBroken, TypeDeclBroken}
use Rattle.wac_resolution_rules.proofs.StepLaws.{fails_stop}
use Rattle.wac_resolution_rules.proofs.TypesOnce.{stands_once, type_once, param_once, result_once}
use Rattle.wac_resolution_rules.proofs.DeclarationsOnce.{case_once, field_once, flag_once, enum_case_once}
use Rattle.wac_resolution_rules.proofs.Options.{neither}

pub fresh_stops : {X : Type 0} (name : List ℕ) (all : Named X) (x : X) → IsFresh name all → StandsFor all name x → ⊥
fresh_stops name all x new stands = cc

-- a name that denotes another form doesn't denote one of these
pub none_stops : (test : Form → Bool) (scope : Scope) (name : List ℕ) (k l : Meaning) → StandsFor scope name k → IsNoneOf test k → StandsFor scope name l → IsA test l → ⊥
none_stops test scope name k l p other q is =
    let f : IsA test k = subst (λ m. IsA test m) (stands_once scope name l k q p) is in
    let d : false ≡ true = sym other ∙ f in cc

pub undefined_stops : {X : Type 0} (all : Named X) (x : Ident) (e : Error) (y : X) → IsUndefined all x e → StandsFor all x.string y → ⊥
undefined_stops all x e y b stands = fresh_stops x.string all y b.0 stands

borrow_stops : (scope : Scope) (x : Ident) (s : _) (e : Error) (m : Meaning) → IsUndefined scope x e ⊎ DenotesNo is_resource_form not_resource_type scope x e → HasType scope (Ty.borrow x s) m → ⊥
borrow_stops scope x s e m (inl b) q = undefined_stops scope x e q.0 b q.1
borrow_stops scope x s e m (inr b) q = none_stops _ scope x.string b.0 q.0 b.1 b.2 q.1 q.2

ident_stops : (scope : Scope) (x : Ident) (e : Error) (m : Meaning) → IsUndefined scope x e ⊎ DenotesNo is_resource_or_value_form not_value_type scope x e → HasType scope (Ty.ident x) m → ⊥
ident_stops scope x e m (inl b) q = undefined_stops scope x e q.0 b q.1
ident_stops scope x e m (inr b) q = none_stops _ scope x.string b.0 q.0 b.1 b.2 q.1 q.2

mutual
  pub type_stops : (scope : Scope) (t : Ty) (e : Error) (m : Meaning) → TypeBroken scope t e → HasType scope t m → ⊥
  type_stops scope (Ty.u8 s) e m b q = b
  type_stops scope (Ty.s8 s) e m b q = b
  type_stops scope (Ty.u16 s) e m b q = b
  type_stops scope (Ty.s16 s) e m b q = b
  type_stops scope (Ty.u32 s) e m b q = b
  type_stops scope (Ty.s32 s) e m b q = b
  type_stops scope (Ty.u64 s) e m b q = b
  type_stops scope (Ty.s64 s) e m b q = b
  type_stops scope (Ty.f32 s) e m b q = b
  type_stops scope (Ty.f64 s) e m b q = b
  type_stops scope (Ty.char s) e m b q = b
  type_stops scope (Ty.bool s) e m b q = b
  type_stops scope (Ty.string s) e m b q = b
  type_stops scope (Ty.error_context s) e m b q = b
  type_stops scope (Ty.tuple ts s) e m b q = types_stop scope ts e q.0 b q.1
  type_stops scope (Ty.list t s) e m b q = type_stops scope t e q.0 b q.1
  type_stops scope (Ty.option t s) e m b q = type_stops scope t e q.0 b q.1
  type_stops scope (Ty.result o r s) e m (inl b) q = optional_stops scope o e q.0 b q.2
  type_stops scope (Ty.result o r s) e m (inr b) q = optional_stops scope r e q.1 b.2 q.3
  type_stops scope (Ty.borrow x s) e m b q = borrow_stops scope x s e m b q
  type_stops scope (Ty.stream t s) e m b q = optional_stops scope t e q.0 b q.1
  type_stops scope (Ty.future t s) e m b q = optional_stops scope t e q.0 b q.1
  type_stops scope (Ty.ident x) e m b q = ident_stops scope x e m b q

  pub optional_stops : (scope : Scope) (t : OptionalTy) (e : Error) (m : Meaning) → OptionalBroken scope t e → HasOptional scope t m → ⊥
  optional_stops scope OptionalTy.absent e m b q = b
  optional_stops scope (OptionalTy.present t) e m b q = type_stops scope t e m b q

  pub types_stop : (scope : Scope) (ts : Types) (e : Error) (ms : List Meaning) → TypesBroken scope ts e → HaveTypes scope ts ms → ⊥
  types_stop scope Types.none e ms b q = b
  types_stop scope (Types.more t ts) e ms (inl b) q = type_stops scope t e q.0 b q.2
  types_stop scope (Types.more t ts) e ms (inr b) q = types_stop scope ts e q.1 b.2 q.3

-- ---- function types

param_stops : (kind : FuncKind) (scope : Scope) (e : Error) (old : Named Meaning) (before : List NamedType) (p : NamedType) (new : Named Meaning) → ParamBroken kind scope e old before p → HasParam scope old p new → ⊥
param_stops kind scope e old before p new (inl b) q = type_stops scope p.ty e q.0 b q.1
param_stops kind scope e old before p new (inr (v, has, b)) q = fresh_stops p.id.string old b.0 q.2 b.1

pub params_stop : (kind : FuncKind) (scope : Scope) (first : Named Meaning) (ps : List NamedType) (e : Error) (all : Named Meaning) → ParamsBroken kind scope first ps e → Steps (HasParam scope) first ps all → ⊥
params_stop kind scope first ps e all b q = fails_stop (HasParam scope) (ParamBroken kind scope e) (param_once scope) (param_stops kind scope e) first ps all b q

result_type_stops : (scope : Scope) (t : Ty) (e : Error) (m : Meaning) → ResultTypeBroken scope t e → HasResultType scope t m → ⊥
result_type_stops scope t e m (inl b) q = type_stops scope t e m b q.0
result_type_stops scope t e m (inr b) q =
    let f : contains_borrow m ≡ true = ap contains_borrow (type_once scope t m b.0 q.0 b.1) ∙ b.2 in
    let d : false ≡ true = sym q.1 ∙ f in cc

result_stops : (kind : FuncKind) (scope : Scope) (e : Error) (old : Named Meaning) (before : List NamedType) (r : NamedType) (new : Named Meaning) → ResultBroken kind scope e old before r → HasResult scope old r new → ⊥
result_stops kind scope e old before r new (inl b) q = result_type_stops scope r.ty e q.0 b q.1
result_stops kind scope e old before r new (inr (v, has, b)) q = fresh_stops r.id.string old b.0 q.2 b.1

results_stop : (kind : FuncKind) (scope : Scope) (rs : ResultList) (e : Error) (all : List (Slot × Meaning)) → ResultsBroken kind scope rs e → HasResults scope rs all → ⊥
results_stop kind scope ResultList.empty e all b q = b
results_stop kind scope (ResultList.scalar t) e all b q = result_type_stops scope t e q.0 b q.1
results_stop kind scope (ResultList.named xs) e all b q = fails_stop (HasResult scope) (ResultBroken kind scope e) (result_once scope) (result_stops kind scope e) [] xs q.0 b q.1

pub func_stops : (kind : FuncKind) (scope : Scope) (first : Named Meaning) (f : FuncType) (e : Error) (m : Meaning) → FuncBroken kind scope first f e → IsFuncWith scope first f m → ⊥
func_stops kind scope first f e m (inl b) q = params_stop kind scope first f.params e q.0 b q.2
func_stops kind scope first f e m (inr b) q = results_stop kind scope f.results e q.1 b.2 q.3

-- ---- declarations of types

option_stops : (scope : Scope) (t : Option Ty) (e : Error) (m : Meaning) → OptionBroken scope t e → HasOption scope t m → ⊥
option_stops scope None e m b q = b
option_stops scope (Some t) e m b q = type_stops scope t e m b q

case_stops : (scope : Scope) (declared : Ident) (e : Error) (old : Named Meaning) (before : List VariantCase) (c : VariantCase) (new : Named Meaning) → CaseBroken scope declared e old before c → HasCase scope old c new → ⊥
case_stops scope declared e old before c new (inl b) q = option_stops scope c.ty e q.0 b q.1
case_stops scope declared e old before c new (inr (v, has, b)) q = fresh_stops c.id.string old b.0 q.2 b.1

field_stops : (scope : Scope) (declared : Ident) (e : Error) (old : Named Meaning) (before : List Field) (f : Field) (new : Named Meaning) → FieldBroken scope declared e old before f → HasField scope old f new → ⊥
field_stops scope declared e old before f new (inl b) q = type_stops scope f.ty e q.0 b q.1
field_stops scope declared e old before f new (inr (v, has, b)) q = fresh_stops f.id.string old b.0 q.2 b.1

flag_stops : (declared : Ident) (e : Error) (old : Named Meaning) (before : List Flag) (f : Flag) (new : Named Meaning) → IsRepeatedPart duplicate_flag declared old f.id e → HasFlag old f new → ⊥
flag_stops declared e old before f new b q = fresh_stops f.id.string old b.0 q.0 b.1

enum_case_stops : (declared : Ident) (e : Error) (old : Named Meaning) (before : List EnumCase) (c : EnumCase) (new : Named Meaning) → IsRepeatedPart duplicate_enum_case declared old c.id e → HasEnumCase old c new → ⊥
enum_case_stops declared e old before f new b q = fresh_stops f.id.string old b.0 q.0 b.1

pub variant_stops : (scope : Scope) (d : VariantDecl) (e : Error) (m : Meaning) → VariantBroken scope d e → IsVariant scope d m → ⊥
variant_stops scope d e m b q = fails_stop (HasCase scope) (CaseBroken scope d.id e) (case_once scope) (case_stops scope d.id e) [] d.cases q.0 b q.1

pub record_stops : (scope : Scope) (d : RecordDecl) (e : Error) (m : Meaning) → RecordBroken scope d e → IsRecord scope d m → ⊥
record_stops scope d e m b q = fails_stop (HasField scope) (FieldBroken scope d.id e) (field_once scope) (field_stops scope d.id e) [] d.fields q.0 b q.1

pub flags_stop : (d : FlagsDecl) (e : Error) (m : Meaning) → FlagsBroken d e → IsFlags d m → ⊥
flags_stop d e m b q = fails_stop HasFlag (λ old before x. IsRepeatedPart duplicate_flag d.id old x.id e) flag_once (flag_stops d.id e) [] d.flags q.0 b q.1

pub enum_stops : (d : EnumDecl) (e : Error) (m : Meaning) → EnumBroken d e → IsEnum d m → ⊥
enum_stops d e m b q = fails_stop HasEnumCase (λ old before x. IsRepeatedPart duplicate_enum_case d.id old x.id e) enum_case_once (enum_case_stops d.id e) [] d.cases q.0 b q.1

type_alias_stops : (aliasing : Aliasing) (scope : Scope) (n : ℕ) (name : List ℕ) (x : Option Ident) (t : Ty) (e : Error) (m : Meaning) (after : ℕ) → TypeAliasBroken aliasing scope n name x t e → IsTypeAlias aliasing scope n name x t m after → ⊥
type_alias_stops aliasing scope n name None t e m after b q = type_stops scope t e q.0 b q.1
type_alias_stops aliasing scope n name (Some x) t e m after (inl b) q = undefined_stops scope x e q.0 b q.1
type_alias_stops aliasing scope n name (Some x) t e m after (inr b) q =
    neither (aliasing n name q.0) (m, after) (ap (aliasing n name) (stands_once scope x.string q.0 b.0 q.1 b.1) ∙ b.2) q.2

pub alias_stops : (aliasing : Aliasing) (scope : Scope) (n : ℕ) (name : List ℕ) (d : TypeAliasKind) (e : Error) (m : Meaning) (after : ℕ) → AliasBroken aliasing scope n name d e → IsAlias aliasing scope n name d m after → ⊥
alias_stops aliasing scope n name (TypeAliasKind.func f) e m after b q = func_stops funcs.Free scope [] f e q.0 b q.1
alias_stops aliasing scope n name (TypeAliasKind.ty t) e m after b q = type_alias_stops aliasing scope n name (alone t) t e m after b q

pub decl_stops : (scope : Scope) (n : ℕ) (d : TypeDecl) (e : Error) (m : Meaning) (after : ℕ) → TypeDeclBroken scope n d e → IsTypeDecl scope n d m after → ⊥
decl_stops scope n (TypeDecl.variant d) e m after b q = variant_stops scope d e m b q.0
decl_stops scope n (TypeDecl.record_decl d) e m after b q = record_stops scope d e m b q.0
decl_stops scope n (TypeDecl.flags d) e m after b q = flags_stop d e m b q.0
decl_stops scope n (TypeDecl.enum d) e m after b q = enum_stops d e m b q.0
decl_stops scope n (TypeDecl.alias d) e m after b q = alias_stops at_root scope n d.id.string d.kind e m after b q
