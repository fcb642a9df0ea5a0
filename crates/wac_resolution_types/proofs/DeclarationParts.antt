-- Declarations of types, by their parts.
use Rattle.wac_resolution_types.proofs.Common.{◌≡◌, ◌∙◌, ℕ, List, [], ◌∷◌, Option, Some, sym, ap, subst, map, option_map, string_bytes, String, Global, VariantDecl, RecordDecl, FlagsDecl, EnumDecl, ItemKind, ValueType, Entry, Slot, Plain, defined_label, Meaning, EachKind, by_name, Named, Scope, defined_type, defined_parts, as_type, naming_each, name_children, values_mean, cases_mean, Steps, Fails, Names, Parts, entry_means, Numbering, ty_of, Error, HasFlag, HasEnumCase, IsVariant, IsRecord, IsFlags, IsEnum, TypeBroken, OptionBroken, GrowsPlainly, AddsDefined, scope_of, grows_self, plainly_on}
use Rattle.wac_graph_types.specs.declared.entry.DefinedType.{DefinedType}
use Rattle.wac_graph_types.specs.Entry as slots
use Rattle.wac_ast_types.specs.declared.types.«Type».{«Type»}
use Rattle.wac_resolution_types.specs.NamedParts.{PartRelation, PartSteps, parts_mean}
use Rattle.wac_resolution_types.specs.Funcs.{types_named}
use Rattle.wac_resolution_types.specs.Declarations.{cases_named, CaseSteps, FieldSteps, names_alone, ValueAdded}
use Rattle.wac_resolution_types.proofs.NamesAlone.{names_each}

-- a defined type, as an item of its own
pub value_added : (old mid new : Parts) (d : DefinedType) (holds : Numbering → Meaning → Type 0) (v : ValueType) → GrowsPlainly old mid → AddsDefined mid new d v
    → ((numbering : Numbering) → holds numbering (defined_type (defined_label d) (defined_parts (entry_means numbering mid) d))) → ValueAdded old new holds v
value_added old mid new d holds v g a h = record {
  grows = plainly_on old mid new g a.grows;
  named = a.named;
  is = λ numbering. subst (holds numbering) (sym (ap as_type (a.is numbering))) (h numbering);
}

-- ---- parts from none

-- a map without names
pub none_named : {V : Type 0} (entries : List (String Global × V)) → entries ≡ [] → by_name entries ≡ []
none_named entries is = ap by_name is

pub parts_from : {V X : Type 0} (read : V → Option ValueType) (step : PartRelation X) (old mid : Parts) (ks : Named ItemKind) (ps qs : Named V) (xs ys : List X) → ps ≡ [] → xs ≡ ys → PartSteps read step old mid ks ps qs xs → PartSteps read step old mid ks [] qs ys
parts_from {V} {X} read step old mid ks ps qs xs ys none same h =
    subst (λ (l : List X). PartSteps read step old mid ks [] qs l) same (subst (λ (l : Named V). PartSteps read step old mid ks l qs xs) none h)

pub parts_fail_from : {V X : Type 0} (read : V → Option ValueType) (step : PartRelation X) (broken : Scope → Named Meaning → List X → X → Type 0) (g : Parts) (ks : Named ItemKind) (ps : Named V) (xs ys : List X) → ps ≡ [] → xs ≡ ys
    → ((numbering : Numbering) → Fails (step (scope_of numbering g ks)) (broken (scope_of numbering g ks)) (parts_mean read numbering g ps) xs) → (numbering : Numbering) → Fails (step (scope_of numbering g ks)) (broken (scope_of numbering g ks)) [] ys
parts_fail_from {V} {X} read step broken g ks ps xs ys none same h numbering =
    subst (λ (l : List X). Fails (step (scope_of numbering g ks)) (broken (scope_of numbering g ks)) [] l) same
    (subst (λ (l : Named V). Fails (step (scope_of numbering g ks)) (broken (scope_of numbering g ks)) (parts_mean read numbering g l) xs) none (h numbering))

-- a defined type by its label and parts
made_of : (ty : DefinedType) (p : Plain) (f : ℕ → Meaning) (parts : List (Slot × Meaning)) → defined_label ty ≡ p → defined_parts f ty ≡ parts → defined_type (defined_label ty) (defined_parts f ty) ≡ defined_type p parts
made_of ty p f parts label is = ap (λ (q : Plain). defined_type q (defined_parts f ty)) label ∙ ap (λ (l : List (Slot × Meaning)). defined_type p l) is

pub variant_is : (old mid new : Parts) (ks : Named ItemKind) (ty : DefinedType) (cases : List (String Global × Option ValueType)) (d : VariantDecl) (v : ValueType) → defined_label ty ≡ Plain.variant → ((f : ℕ → Meaning) → defined_parts f ty ≡ naming_each (cases_mean f (by_name cases)))
    → CaseSteps old mid ks [] (by_name cases) d.cases → AddsDefined mid new ty v → ValueAdded old new (λ numbering m. IsVariant (scope_of numbering old ks) d m) v
variant_is old mid new ks ty cases d v label parts p a =
    value_added old mid new ty (λ numbering m. IsVariant (scope_of numbering old ks) d m) v p.grows a
    (λ numbering. (cases_named numbering mid (by_name cases), p.go numbering, made_of ty Plain.variant (entry_means numbering mid) (naming_each (cases_named numbering mid (by_name cases))) label (parts (entry_means numbering mid))))

pub record_is : (old mid new : Parts) (ks : Named ItemKind) (ty : DefinedType) (fields : List (String Global × ValueType)) (d : RecordDecl) (v : ValueType) → defined_label ty ≡ Plain.fields → ((f : ℕ → Meaning) → defined_parts f ty ≡ naming_each (values_mean f (by_name fields)))
    → FieldSteps old mid ks [] (by_name fields) d.fields → AddsDefined mid new ty v → ValueAdded old new (λ numbering m. IsRecord (scope_of numbering old ks) d m) v
record_is old mid new ks ty fields d v label parts p a =
    value_added old mid new ty (λ numbering m. IsRecord (scope_of numbering old ks) d m) v p.grows a
    (λ numbering. (types_named numbering mid (by_name fields), p.go numbering, made_of ty Plain.fields (entry_means numbering mid) (naming_each (types_named numbering mid (by_name fields))) label (parts (entry_means numbering mid))))

-- the type of a case breaks
pub case_type_breaks : (g : Parts) (ks : Named ItemKind) (x : Option «Type») (t : «Type») (e : Error) → x ≡ Some t → ((numbering : Numbering) → TypeBroken (scope_of numbering g ks) (ty_of t) e) → (numbering : Numbering) → OptionBroken (scope_of numbering g ks) (option_map ty_of x) e
case_type_breaks g ks x t e is h numbering = subst (λ (y : Option «Type»). OptionBroken (scope_of numbering g ks) (option_map ty_of y) e) (sym is) (h numbering)

-- ---- names alone, from none

pub names_from : {X : Type 0} (step : Named Meaning → X → Named Meaning → Type 0) (names : List (String Global)) (new : Named Meaning) (xs ys : List X) → names ≡ [] → xs ≡ ys → Steps step (names_alone names) xs new → Steps step [] ys new
names_from {X} step names new xs ys none same h = subst (λ (l : List X). Steps step [] l new) same (subst (λ (l : List (String Global)). Steps step (names_alone l) xs new) none h)

pub names_fail_from : {X : Type 0} (step : Named Meaning → X → Named Meaning → Type 0) (broken : Named Meaning → List X → X → Type 0) (names : List (String Global)) (xs ys : List X) → names ≡ [] → xs ≡ ys → Fails step broken (names_alone names) xs → Fails step broken [] ys
names_fail_from {X} step broken names xs ys none same h = subst (λ (l : List X). Fails step broken [] l) same (subst (λ (l : List (String Global)). Fails step broken (names_alone l) xs) none h)

pub flags_are : (old new : Parts) (ty : DefinedType) (names : List (String Global)) (d : FlagsDecl) (v : ValueType) → defined_label ty ≡ Plain.flags → ((f : ℕ → Meaning) → defined_parts f ty ≡ name_children (map string_bytes names))
    → Steps HasFlag [] d.flags (names_alone names) → AddsDefined old new ty v → ValueAdded old new (λ numbering m. IsFlags d m) v
flags_are old new ty names d v label parts p a =
    value_added old old new ty (λ numbering m. IsFlags d m) v (grows_self old) a
    (λ numbering. (names_alone names, p, made_of ty Plain.flags (entry_means numbering old) (naming_each (names_alone names)) label (parts (entry_means numbering old) ∙ sym (names_each names))))

pub enum_is : (old new : Parts) (ty : DefinedType) (names : List (String Global)) (d : EnumDecl) (v : ValueType) → defined_label ty ≡ Plain.cases → ((f : ℕ → Meaning) → defined_parts f ty ≡ name_children (map string_bytes names))
    → Steps HasEnumCase [] d.cases (names_alone names) → AddsDefined old new ty v → ValueAdded old new (λ numbering m. IsEnum d m) v
enum_is old new ty names d v label parts p a =
    value_added old old new ty (λ numbering m. IsEnum d m) v (grows_self old) a
    (λ numbering. (names_alone names, p, made_of ty Plain.cases (entry_means numbering old) (naming_each (names_alone names)) label (parts (entry_means numbering old) ∙ sym (names_each names))))

-- names alone denote nothing in a table
pub alone_kinds : (es : List Entry) (names : List (String Global)) → EachKind (Names es) (slots.name_children names)
alone_kinds es [] = tt
alone_kinds es (n ∷ names) = (tt, alone_kinds es names)
