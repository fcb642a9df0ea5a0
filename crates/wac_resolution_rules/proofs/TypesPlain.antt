-- Of a type only the names matter.
use Rattle.wac_resolution_rules.proofs.Common.{◌≡◌, ℕ, false, List, [], ◌∷◌, Some, None, Option, refl, ◌∙◌, ap, map, option_map, Plain, Slot, a_func, Meaning, Named, Scope, IsFresh, with_named, Steps, kind_of, defined_value, defined_type, naming_each, in_order, one_child, result_children, one_result, named_results, own_of, func_entry, contains_borrow, alias_type, Ident, Ty, OptionalTy, Types, NamedType, ResultList, FuncType, VariantCase, VariantDecl, Field, RecordDecl, FlagsDecl, EnumDecl, TypeAliasKind, TypeDecl, walk_enum_case, walk_enum_decl, walk_field, walk_flag, walk_flags_decl, walk_func_type, walk_named_type, walk_optional_ty, walk_record_decl, walk_result_list, walk_ty, walk_type_alias_kind, walk_type_decl, walk_types, walk_variant_case, walk_variant_decl, changed, no_docs, plain}
use Rattle.wac_resolution_rules.specs.Types.{HasType, HasOptional, HaveTypes, HasParam, HasResult, HasResults, IsFuncWith, IsConstructor}
use Rattle.wac_resolution_rules.specs.Declarations.{HasOption, HasCase, HasField, HasFlag, HasEnumCase, IsVariant, IsRecord, IsFlags, IsEnum, Aliasing, at_root, alone, IsTypeAlias, IsAlias, IsTypeDecl}
use Rattle.wac_resolution_rules.proofs.StepLaws.{steps_map}

mutual
  pub type_plain : (scope : Scope) (t : Ty) → HasType scope (walk_ty (changed plain) t) ≡ HasType scope t
  type_plain scope (Ty.u8 s) = refl
  type_plain scope (Ty.s8 s) = refl
  type_plain scope (Ty.u16 s) = refl
  type_plain scope (Ty.s16 s) = refl
  type_plain scope (Ty.u32 s) = refl
  type_plain scope (Ty.s32 s) = refl
  type_plain scope (Ty.u64 s) = refl
  type_plain scope (Ty.s64 s) = refl
  type_plain scope (Ty.f32 s) = refl
  type_plain scope (Ty.f64 s) = refl
  type_plain scope (Ty.char s) = refl
  type_plain scope (Ty.bool s) = refl
  type_plain scope (Ty.string s) = refl
  type_plain scope (Ty.tuple ts s) = λ i m. (vs : List Meaning) × types_plain scope ts i vs × (m ≡ defined_value Plain.tuple (in_order vs))
  type_plain scope (Ty.list t s) = λ i m. (v : Meaning) × type_plain scope t i v × (m ≡ defined_value Plain.list (one_child v))
  type_plain scope (Ty.option t s) = λ i m. (v : Meaning) × type_plain scope t i v × (m ≡ defined_value Plain.option (one_child v))
  type_plain scope (Ty.result o e s) = λ i m. (v : Meaning) × (w : Meaning) × optional_plain scope o i v × optional_plain scope e i w × (m ≡ defined_value Plain.result (result_children v w))
  type_plain scope (Ty.borrow x s) = refl
  type_plain scope (Ty.stream t s) = λ i m. (v : Meaning) × optional_plain scope t i v × (m ≡ defined_value Plain.stream (one_child v))
  type_plain scope (Ty.future t s) = λ i m. (v : Meaning) × optional_plain scope t i v × (m ≡ defined_value Plain.future (one_child v))
  type_plain scope (Ty.error_context s) = refl
  type_plain scope (Ty.ident x) = refl

  optional_plain : (scope : Scope) (t : OptionalTy) → HasOptional scope (walk_optional_ty (changed plain) t) ≡ HasOptional scope t
  optional_plain scope OptionalTy.absent = refl
  optional_plain scope (OptionalTy.present t) = type_plain scope t

  types_plain : (scope : Scope) (ts : Types) → HaveTypes scope (walk_types (changed plain) ts) ≡ HaveTypes scope ts
  types_plain scope Types.none = refl
  types_plain scope (Types.more t ts) = λ i vs. (v : Meaning) × (ws : List Meaning) × type_plain scope t i v × types_plain scope ts i ws × (vs ≡ v ∷ ws)

pub param_plain : (scope : Scope) (old : Named Meaning) (p : NamedType) → HasParam scope old (walk_named_type (changed plain) p) ≡ HasParam scope old p
param_plain scope old p = λ i new. (v : Meaning) × type_plain scope p.ty i v × IsFresh p.id.string old × (new ≡ with_named old p.id.string v)

pub params_plain : (scope : Scope) (first : Named Meaning) (ps : List NamedType) → Steps (HasParam scope) first (map (walk_named_type (changed plain)) ps) ≡ Steps (HasParam scope) first ps
params_plain scope first ps = steps_map (HasParam scope) (walk_named_type (changed plain)) (param_plain scope) first ps

result_plain : (scope : Scope) (old : Named Meaning) (r : NamedType) → HasResult scope old (walk_named_type (changed plain) r) ≡ HasResult scope old r
result_plain scope old r = λ i new. (v : Meaning) × (type_plain scope r.ty i v × (contains_borrow v ≡ false)) × IsFresh r.id.string old × (new ≡ with_named old r.id.string v)

pub results_plain : (scope : Scope) (rs : ResultList) → HasResults scope (walk_result_list (changed plain) rs) ≡ HasResults scope rs
results_plain scope ResultList.empty = refl
results_plain scope (ResultList.scalar t) = λ i rs. (v : Meaning) × (type_plain scope t i v × (contains_borrow v ≡ false)) × (rs ≡ one_result v)
results_plain scope (ResultList.named xs) = λ i rs. (all : Named Meaning) × steps_map (HasResult scope) (walk_named_type (changed plain)) (result_plain scope) [] xs i all × (rs ≡ named_results all)

pub func_with_plain : (scope : Scope) (first : Named Meaning) (f : FuncType) → IsFuncWith scope first (walk_func_type (changed plain) f) ≡ IsFuncWith scope first f
func_with_plain scope first f = λ i entry. (ps : Named Meaning) × (rs : List (Slot × Meaning)) × params_plain scope first f.params i ps × results_plain scope f.results i rs × (entry ≡ func_entry f.is_async rs ps)

pub constructor_plain : (scope : Scope) (resource : Meaning) (ps : List NamedType) → IsConstructor scope resource (map (walk_named_type (changed plain)) ps) ≡ IsConstructor scope resource ps
constructor_plain scope resource ps = λ i entry. (all : Named Meaning) × params_plain scope [] ps i all × (entry ≡ func_entry false (one_result (own_of resource)) all)

-- ---- declarations of types

option_plain : (scope : Scope) (t : Option Ty) → HasOption scope (option_map (walk_ty (changed plain)) t) ≡ HasOption scope t
option_plain scope None = refl
option_plain scope (Some t) = type_plain scope t

case_plain : (scope : Scope) (old : Named Meaning) (c : VariantCase) → HasCase scope old (walk_variant_case (changed plain) no_docs c) ≡ HasCase scope old c
case_plain scope old c = λ i new. (v : Meaning) × option_plain scope c.ty i v × IsFresh c.id.string old × (new ≡ with_named old c.id.string v)

field_plain : (scope : Scope) (old : Named Meaning) (f : Field) → HasField scope old (walk_field (changed plain) no_docs f) ≡ HasField scope old f
field_plain scope old f = λ i new. (v : Meaning) × type_plain scope f.ty i v × IsFresh f.id.string old × (new ≡ with_named old f.id.string v)

pub variant_plain : (scope : Scope) (d : VariantDecl) → IsVariant scope (walk_variant_decl (changed plain) no_docs d) ≡ IsVariant scope d
variant_plain scope d = λ i m. (all : Named Meaning) × steps_map (HasCase scope) (walk_variant_case (changed plain) no_docs) (case_plain scope) [] d.cases i all × (m ≡ defined_type Plain.variant (naming_each all))

pub record_plain : (scope : Scope) (d : RecordDecl) → IsRecord scope (walk_record_decl (changed plain) no_docs d) ≡ IsRecord scope d
record_plain scope d = λ i m. (all : Named Meaning) × steps_map (HasField scope) (walk_field (changed plain) no_docs) (field_plain scope) [] d.fields i all × (m ≡ defined_type Plain.fields (naming_each all))

pub flags_plain : (d : FlagsDecl) → IsFlags (walk_flags_decl (changed plain) no_docs d) ≡ IsFlags d
flags_plain d = λ i m. (all : Named Meaning) × steps_map HasFlag (walk_flag (changed plain) no_docs) (λ old f. refl) [] d.flags i all × (m ≡ defined_type Plain.flags (naming_each all))

pub enum_plain : (d : EnumDecl) → IsEnum (walk_enum_decl (changed plain) no_docs d) ≡ IsEnum d
enum_plain d = λ i m. (all : Named Meaning) × steps_map HasEnumCase (walk_enum_case (changed plain) no_docs) (λ old c. refl) [] d.cases i all × (m ≡ defined_type Plain.cases (naming_each all))

alone_plain : (t : Ty) → alone (walk_ty (changed plain) t) ≡ option_map plain.ident (alone t)
alone_plain (Ty.ident x) = refl
alone_plain (Ty.u8 s) = refl
alone_plain (Ty.s8 s) = refl
alone_plain (Ty.u16 s) = refl
alone_plain (Ty.s16 s) = refl
alone_plain (Ty.u32 s) = refl
alone_plain (Ty.s32 s) = refl
alone_plain (Ty.u64 s) = refl
alone_plain (Ty.s64 s) = refl
alone_plain (Ty.f32 s) = refl
alone_plain (Ty.f64 s) = refl
alone_plain (Ty.char s) = refl
alone_plain (Ty.bool s) = refl
alone_plain (Ty.string s) = refl
alone_plain (Ty.tuple ts s) = refl
alone_plain (Ty.list t s) = refl
alone_plain (Ty.option t s) = refl
alone_plain (Ty.result o e s) = refl
alone_plain (Ty.borrow x s) = refl
alone_plain (Ty.stream t s) = refl
alone_plain (Ty.future t s) = refl
alone_plain (Ty.error_context s) = refl

alone_alias_plain : (aliasing : Aliasing) (scope : Scope) (n : ℕ) (name : List ℕ) (x : Option Ident) (t : Ty) → IsTypeAlias aliasing scope n name (option_map plain.ident x) (walk_ty (changed plain) t) ≡ IsTypeAlias aliasing scope n name x t
alone_alias_plain aliasing scope n name None t = λ i m after. (v : Meaning) × type_plain scope t i v × (m ≡ alias_type v) × (after ≡ n)
alone_alias_plain aliasing scope n name (Some x) t = refl

pub alias_plain : (aliasing : Aliasing) (scope : Scope) (n : ℕ) (name : List ℕ) (d : TypeAliasKind) → IsAlias aliasing scope n name (walk_type_alias_kind (changed plain) d) ≡ IsAlias aliasing scope n name d
alias_plain aliasing scope n name (TypeAliasKind.func f) = λ i m after. (entry : Meaning) × func_with_plain scope [] f i entry × (m ≡ kind_of a_func entry) × (after ≡ n)
alias_plain aliasing scope n name (TypeAliasKind.ty t) =
    ap (λ (x : Option Ident). IsTypeAlias aliasing scope n name x (walk_ty (changed plain) t)) (alone_plain t) ∙ alone_alias_plain aliasing scope n name (alone t) t

pub decl_plain : (scope : Scope) (n : ℕ) (d : TypeDecl) → IsTypeDecl scope n (walk_type_decl (changed plain) no_docs d) ≡ IsTypeDecl scope n d
decl_plain scope n (TypeDecl.variant d) = λ i m after. variant_plain scope d i m × (after ≡ n)
decl_plain scope n (TypeDecl.record_decl d) = λ i m after. record_plain scope d i m × (after ≡ n)
decl_plain scope n (TypeDecl.flags d) = λ i m after. flags_plain d i m × (after ≡ n)
decl_plain scope n (TypeDecl.enum d) = λ i m after. enum_plain d i m × (after ≡ n)
decl_plain scope n (TypeDecl.alias d) = alias_plain at_root scope n d.id.string d.kind
