-- A type has one meaning in a scope.
use Rattle.wac_resolution_rules.proofs.Common.{◌≡◌, ℕ, false, List, [], ◌∷◌, Some, sym, ◌∙◌, ap, Plain, Slot, Meaning, Named, Scope, StandsFor, with_named, entry_of, as_value, borrow_of, own_of, defined_value, in_order, one_child, result_children, one_result, named_results, func_entry, Ty, OptionalTy, Types, NamedType, ResultList, FuncType}
use Rattle.wac_resolution_rules.specs.Types.{HasType, HasOptional, HaveTypes, HasParam, HasResult, HasResults, IsFuncWith, IsConstructor}
use Rattle.wac_resolution_rules.proofs.StepLaws.{IsOnce, steps_once}

-- a name denotes one thing
pub stands_once : {X : Type 0} (all : Named X) (name : List ℕ) (a b : X) → StandsFor all name a → StandsFor all name b → a ≡ b
stands_once all name a b p q = let e : Some a ≡ Some b = sym p ∙ q in cc

mutual
  pub type_once : (scope : Scope) (t : Ty) (a b : Meaning) → HasType scope t a → HasType scope t b → a ≡ b
  type_once scope (Ty.u8 s) a b p q = p ∙ sym q
  type_once scope (Ty.s8 s) a b p q = p ∙ sym q
  type_once scope (Ty.u16 s) a b p q = p ∙ sym q
  type_once scope (Ty.s16 s) a b p q = p ∙ sym q
  type_once scope (Ty.u32 s) a b p q = p ∙ sym q
  type_once scope (Ty.s32 s) a b p q = p ∙ sym q
  type_once scope (Ty.u64 s) a b p q = p ∙ sym q
  type_once scope (Ty.s64 s) a b p q = p ∙ sym q
  type_once scope (Ty.f32 s) a b p q = p ∙ sym q
  type_once scope (Ty.f64 s) a b p q = p ∙ sym q
  type_once scope (Ty.char s) a b p q = p ∙ sym q
  type_once scope (Ty.bool s) a b p q = p ∙ sym q
  type_once scope (Ty.string s) a b p q = p ∙ sym q
  type_once scope (Ty.tuple ts s) a b p q = p.2 ∙ ap (λ vs. defined_value Plain.tuple (in_order vs)) (types_once scope ts p.0 q.0 p.1 q.1) ∙ sym q.2
  type_once scope (Ty.list t s) a b p q = p.2 ∙ ap (λ v. defined_value Plain.list (one_child v)) (type_once scope t p.0 q.0 p.1 q.1) ∙ sym q.2
  type_once scope (Ty.option t s) a b p q = p.2 ∙ ap (λ v. defined_value Plain.option (one_child v)) (type_once scope t p.0 q.0 p.1 q.1) ∙ sym q.2
  type_once scope (Ty.result o e s) a b p q =
      p.4 ∙ ap (λ v. defined_value Plain.result (result_children v p.1)) (optional_once scope o p.0 q.0 p.2 q.2)
      ∙ ap (λ v. defined_value Plain.result (result_children q.0 v)) (optional_once scope e p.1 q.1 p.3 q.3) ∙ sym q.4
  type_once scope (Ty.borrow x s) a b p q = p.3 ∙ ap (λ k. borrow_of (entry_of k)) (stands_once scope x.string p.0 q.0 p.1 q.1) ∙ sym q.3
  type_once scope (Ty.stream t s) a b p q = p.2 ∙ ap (λ v. defined_value Plain.stream (one_child v)) (optional_once scope t p.0 q.0 p.1 q.1) ∙ sym q.2
  type_once scope (Ty.future t s) a b p q = p.2 ∙ ap (λ v. defined_value Plain.future (one_child v)) (optional_once scope t p.0 q.0 p.1 q.1) ∙ sym q.2
  type_once scope (Ty.error_context s) a b p q = p ∙ sym q
  type_once scope (Ty.ident x) a b p q = p.3 ∙ ap as_value (stands_once scope x.string p.0 q.0 p.1 q.1) ∙ sym q.3

  optional_once : (scope : Scope) (t : OptionalTy) (a b : Meaning) → HasOptional scope t a → HasOptional scope t b → a ≡ b
  optional_once scope OptionalTy.absent a b p q = p ∙ sym q
  optional_once scope (OptionalTy.present t) a b p q = type_once scope t a b p q

  types_once : (scope : Scope) (ts : Types) (a b : List Meaning) → HaveTypes scope ts a → HaveTypes scope ts b → a ≡ b
  types_once scope Types.none a b p q = p ∙ sym q
  types_once scope (Types.more t ts) a b p q =
      p.4 ∙ ap (λ v. v ∷ p.1) (type_once scope t p.0 q.0 p.2 q.2) ∙ ap (λ ws. q.0 ∷ ws) (types_once scope ts p.1 q.1 p.3 q.3) ∙ sym q.4

pub param_once : (scope : Scope) → IsOnce (HasParam scope)
param_once scope old x a b p q = p.3 ∙ ap (with_named old x.id.string) (type_once scope x.ty p.0 q.0 p.1 q.1) ∙ sym q.3

pub result_once : (scope : Scope) → IsOnce (HasResult scope)
result_once scope old x a b p q = p.3 ∙ ap (with_named old x.id.string) (type_once scope x.ty p.0 q.0 p.1.0 q.1.0) ∙ sym q.3

pub results_once : (scope : Scope) (rs : ResultList) (a b : List (Slot × Meaning)) → HasResults scope rs a → HasResults scope rs b → a ≡ b
results_once scope ResultList.empty a b p q = p ∙ sym q
results_once scope (ResultList.scalar t) a b p q = p.2 ∙ ap one_result (type_once scope t p.0 q.0 p.1.0 q.1.0) ∙ sym q.2
results_once scope (ResultList.named xs) a b p q = p.2 ∙ ap named_results (steps_once (HasResult scope) (result_once scope) [] xs p.0 q.0 p.1 q.1) ∙ sym q.2

pub func_once : (scope : Scope) (first : Named Meaning) (f : FuncType) (a b : Meaning) → IsFuncWith scope first f a → IsFuncWith scope first f b → a ≡ b
func_once scope first f a b p q =
    p.4 ∙ ap (λ rs. func_entry f.is_async rs p.0) (results_once scope f.results p.1 q.1 p.3 q.3)
    ∙ ap (func_entry f.is_async q.1) (steps_once (HasParam scope) (param_once scope) first f.params p.0 q.0 p.2 q.2) ∙ sym q.4

pub constructor_once : (scope : Scope) (resource : Meaning) (ps : List NamedType) (a b : Meaning) → IsConstructor scope resource ps a → IsConstructor scope resource ps b → a ≡ b
constructor_once scope resource ps a b p q =
    p.2 ∙ ap (func_entry false (one_result (own_of resource))) (steps_once (HasParam scope) (param_once scope) [] ps p.0 q.0 p.1 q.1) ∙ sym q.2
