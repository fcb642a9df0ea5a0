-- A declaration declares one kind.
use Rattle.wac_resolution_rules.proofs.Common.{◌≡◌, ℕ, List, [], Some, None, Option, sym, ◌∙◌, ap, Plain, a_func, Meaning, Scope, with_named, kind_of, defined_type, naming_each, alias_type, Ident, Ty, VariantDecl, RecordDecl, FlagsDecl, EnumDecl, TypeAliasKind, TypeDecl}
use Rattle.wac_resolution_rules.specs.Declarations.{HasOption, HasCase, HasField, HasFlag, HasEnumCase, IsVariant, IsRecord, IsFlags, IsEnum, Aliasing, at_root, alone, IsTypeAlias, IsAlias, IsTypeDecl}
use Rattle.wac_resolution_rules.proofs.StepLaws.{IsOnce, steps_once}
use Rattle.wac_resolution_rules.proofs.TypesOnce.{stands_once, type_once, func_once}
use Rattle.wac_resolution_rules.proofs.Options.{some_back}

pub option_once : (scope : Scope) (t : Option Ty) (a b : Meaning) → HasOption scope t a → HasOption scope t b → a ≡ b
option_once scope None a b p q = p ∙ sym q
option_once scope (Some t) a b p q = type_once scope t a b p q

pub case_once : (scope : Scope) → IsOnce (HasCase scope)
case_once scope old c a b p q = p.3 ∙ ap (with_named old c.id.string) (option_once scope c.ty p.0 q.0 p.1 q.1) ∙ sym q.3

pub field_once : (scope : Scope) → IsOnce (HasField scope)
field_once scope old f a b p q = p.3 ∙ ap (with_named old f.id.string) (type_once scope f.ty p.0 q.0 p.1 q.1) ∙ sym q.3

pub flag_once : IsOnce HasFlag
flag_once old f a b p q = p.1 ∙ sym q.1

pub enum_case_once : IsOnce HasEnumCase
enum_case_once old c a b p q = p.1 ∙ sym q.1

pub variant_once : (scope : Scope) (d : VariantDecl) (a b : Meaning) → IsVariant scope d a → IsVariant scope d b → a ≡ b
variant_once scope d a b p q = p.2 ∙ ap (λ all. defined_type Plain.variant (naming_each all)) (steps_once (HasCase scope) (case_once scope) [] d.cases p.0 q.0 p.1 q.1) ∙ sym q.2

pub record_once : (scope : Scope) (d : RecordDecl) (a b : Meaning) → IsRecord scope d a → IsRecord scope d b → a ≡ b
record_once scope d a b p q = p.2 ∙ ap (λ all. defined_type Plain.fields (naming_each all)) (steps_once (HasField scope) (field_once scope) [] d.fields p.0 q.0 p.1 q.1) ∙ sym q.2

pub flags_once : (d : FlagsDecl) (a b : Meaning) → IsFlags d a → IsFlags d b → a ≡ b
flags_once d a b p q = p.2 ∙ ap (λ all. defined_type Plain.flags (naming_each all)) (steps_once HasFlag flag_once [] d.flags p.0 q.0 p.1 q.1) ∙ sym q.2

pub enum_once : (d : EnumDecl) (a b : Meaning) → IsEnum d a → IsEnum d b → a ≡ b
enum_once d a b p q = p.2 ∙ ap (λ all. defined_type Plain.cases (naming_each all)) (steps_once HasEnumCase enum_case_once [] d.cases p.0 q.0 p.1 q.1) ∙ sym q.2

-- two kinds with their counts are the same
abbrev pub Same : Meaning → ℕ → Meaning → ℕ → Type 0
Same a n b k = (a ≡ b) × (n ≡ k)

type_alias_once : (aliasing : Aliasing) (scope : Scope) (n : ℕ) (name : List ℕ) (x : Option Ident) (t : Ty) (a b : Meaning) (i j : ℕ)
    → IsTypeAlias aliasing scope n name x t a i → IsTypeAlias aliasing scope n name x t b j → Same a i b j
type_alias_once aliasing scope n name None t a b i j p q = (p.2 ∙ ap alias_type (type_once scope t p.0 q.0 p.1 q.1) ∙ sym q.2, p.3 ∙ sym q.3)
type_alias_once aliasing scope n name (Some x) t a b i j p q =
    let e : Some (a, i) ≡ Some (b, j) = sym p.2 ∙ ap (aliasing n name) (stands_once scope x.string p.0 q.0 p.1 q.1) ∙ q.2 in
    let d : (a, i) ≡ (b, j) = some_back e in
    (ap (λ c. c.0) d, ap (λ c. c.1) d)

pub alias_once : (aliasing : Aliasing) (scope : Scope) (n : ℕ) (name : List ℕ) (d : TypeAliasKind) (a b : Meaning) (i j : ℕ)
    → IsAlias aliasing scope n name d a i → IsAlias aliasing scope n name d b j → Same a i b j
alias_once aliasing scope n name (TypeAliasKind.func f) a b i j p q = (p.2 ∙ ap (kind_of a_func) (func_once scope [] f p.0 q.0 p.1 q.1) ∙ sym q.2, p.3 ∙ sym q.3)
alias_once aliasing scope n name (TypeAliasKind.ty t) a b i j p q = type_alias_once aliasing scope n name (alone t) t a b i j p q

pub decl_once : (scope : Scope) (n : ℕ) (d : TypeDecl) (a b : Meaning) (i j : ℕ) → IsTypeDecl scope n d a i → IsTypeDecl scope n d b j → Same a i b j
decl_once scope n (TypeDecl.variant d) a b i j p q = (variant_once scope d a b p.0 q.0, p.1 ∙ sym q.1)
decl_once scope n (TypeDecl.record_decl d) a b i j p q = (record_once scope d a b p.0 q.0, p.1 ∙ sym q.1)
decl_once scope n (TypeDecl.flags d) a b i j p q = (flags_once d a b p.0 q.0, p.1 ∙ sym q.1)
decl_once scope n (TypeDecl.enum d) a b i j p q = (enum_once d a b p.0 q.0, p.1 ∙ sym q.1)
decl_once scope n (TypeDecl.alias d) a b i j p q = alias_once at_root scope n d.id.string d.kind a b i j p q
