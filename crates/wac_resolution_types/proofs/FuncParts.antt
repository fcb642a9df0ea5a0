-- Function types, by their parts.
use Rattle.wac_resolution_types.proofs.Common.{◌≡◌, ◌∙◌, ℕ, List, [], ◌∷◌, ◌++◌, Option, Bool, true, false, refl, sym, ap, subst, map, inr, String, Vec, Global, Ty, ItemKind, ValueType, FuncTypeId, Entry, Slot, named_result_children, value_children, Meaning, meaning, EachKind, by_name, Named, Scope, contains_borrow, entry_of, own_of, one_result, named_results, func_entry, results_mean, values_mean, Fails, Names, ItemsNamed, Parts, means, entry_means, origin_at, Numbering, ty_of, named_type_of, result_list_of, Error, borrow_in_result, HasResult, HasResults, IsFuncWith, first_params, ParamsBroken, ResultTypeBroken, ResultBroken, ResultsBroken, FuncBroken, AddsFunc, scope_of, plainly_on, scope_kept}
use Rattle.wac_ast_grammar.specs.Tree.{FuncType, NamedType}
use Rattle.wac_ast_grammar.specs.Spans.{ty_span}
use Rattle.wac_graph_types.specs.declared.kind.ItemKind.TheVariants as kinds
use Rattle.wac_graph_types.specs.declared.kind.«Type».TheVariants as types
use Rattle.wac_graph_types.specs.declared.kind.ValueType.TheVariants as values
use Rattle.wac_graph_types.specs.declared.kind.ResourceId.{ResourceId}
use Rattle.wac_graph_types.specs.declared.kind.FuncKind.TheVariants as funcs
use Rattle.wac_graph_types.specs.declared.kind.FuncKind.{FuncKind}
use Rattle.wac_graph_types.specs.declared.entry.FuncResults.{FuncResults}
use Rattle.wac_graph_types.specs.declared.entry.FuncResults.TheVariants as given_results
use Rattle.wac_graph_types.specs.Entry.{result_children}
use Rattle.wac_graph.proofs.Origins.{means_is}
use Rattle.wac_ast_types.specs.declared.types.«Type».{«Type»}
use Rattle.wac_ast_types.specs.declared.func_type.NamedType.{NamedType as CodeNamedType}
use Rattle.wac_ast_types.specs.declared.func_type.ResultList.{ResultList as CodeResultList}
use Rattle.wac_ast_types.specs.declared.func_type.ResultList.TheVariants as results
use Rattle.wac_resolution_rules.specs.BrokenBodies.{method_kind}
use Rattle.wac_resolution_types.specs.Types.{TypeIs}
use Rattle.wac_resolution_types.specs.Funcs.{given, types_named, TypesNamed, ParamSteps, ResultTypeIs, ResultSteps, ResultsAre, FuncAdded, FuncIs, ConstructorIs, own_params}
use Rattle.wac_resolution_types.proofs.NamedParts.{parts_kept, values_named, results_named}

-- ---- results

-- what the table says of borrows, the meaning says
pub borrow_is : (g : Parts) (ts : List Entry) (v : ValueType) (b : Bool) → ts ≡ g.types → ((origins : ℕ → ℕ) → b ≡ contains_borrow (meaning origins ts (kinds.Value v))) → (numbering : Numbering) → contains_borrow (means numbering g (kinds.Value v)) ≡ b
borrow_is g ts v b same has numbering =
    ap contains_borrow (means_is numbering g (kinds.Value v))
    ∙ sym (has (λ i. numbering (origin_at g i)) ∙ ap (λ (l : List Entry). contains_borrow (meaning (λ i. numbering (origin_at g i)) l (kinds.Value v))) same)

-- the type of a result
pub result_type_is : (old new : Parts) (ks : Named ItemKind) (t : Ty) (v : ValueType) → TypeIs old new ks t v → ((numbering : Numbering) → contains_borrow (means numbering new (kinds.Value v)) ≡ false) → ResultTypeIs old new ks t v
result_type_is old new ks t v h none = record { grows = h.grows; named = h.named; is = λ numbering. (h.is numbering, none numbering) }

pub borrow_breaks : (old new : Parts) (ks : Named ItemKind) (t : Ty) (v : ValueType) (e : Error) → TypeIs old new ks t v → ((numbering : Numbering) → contains_borrow (means numbering new (kinds.Value v)) ≡ true) → e ≡ borrow_in_result (ty_span t)
    → (numbering : Numbering) → ResultTypeBroken (scope_of numbering old ks) t e
borrow_breaks old new ks t v e h has error_is numbering = inr (means numbering new (kinds.Value v), h.is numbering, has numbering, error_is)

pub scalar_is : (old new : Parts) (ks : Named ItemKind) (x : CodeResultList) (t : «Type») (v : ValueType) → x ≡ results.Scalar t → ResultTypeIs old new ks (ty_of t) v → ResultsAre old new ks (result_list_of x) (given_results.Scalar v)
scalar_is old new ks x t v is h = subst (λ (y : CodeResultList). ResultsAre old new ks (result_list_of y) (given_results.Scalar v)) (sym is) (record {
  grows = h.grows;
  named = (h.named, tt);
  are = λ numbering. (means numbering new (kinds.Value v), h.is numbering, refl);
})

pub scalar_breaks : (kind : FuncKind) (g : Parts) (ks : Named ItemKind) (x : CodeResultList) (t : «Type») (e : Error) → x ≡ results.Scalar t → ((numbering : Numbering) → ResultTypeBroken (scope_of numbering g ks) (ty_of t) e) → (numbering : Numbering) → ResultsBroken kind (scope_of numbering g ks) (result_list_of x) e
scalar_breaks kind g ks x t e is h numbering = subst (λ (y : CodeResultList). ResultsBroken kind (scope_of numbering g ks) (result_list_of y) e) (sym is) (h numbering)

-- named results, whose trees and map in the code are these
pub named_are : (old new : Parts) (ks : Named ItemKind) (x : CodeResultList) (l : Vec CodeNamedType Global) (xs : List NamedType) (rs : FuncResults) (all : List (String Global × ValueType)) → x ≡ results.Named l → xs ≡ map named_type_of l.items
    → result_children rs ≡ named_result_children all → ((f : ℕ → Meaning) → results_mean f rs ≡ named_results (values_mean f (by_name all))) → ResultSteps old new ks [] (by_name all) xs → ResultsAre old new ks (result_list_of x) rs
named_are old new ks x l xs rs all is trees children means h =
    let p : ResultSteps old new ks [] (by_name all) (map named_type_of l.items) = subst (ResultSteps old new ks [] (by_name all)) trees h in
    subst (λ (y : CodeResultList). ResultsAre old new ks (result_list_of y) rs) (sym is) (record {
      grows = p.grows;
      named = subst (EachKind (Names new.types)) (sym children) (results_named new.types all p.named);
      are = λ numbering. (types_named numbering new (by_name all), p.go numbering, means (entry_means numbering new));
    })

pub named_break : (kind : FuncKind) (g : Parts) (ks : Named ItemKind) (x : CodeResultList) (l : Vec CodeNamedType Global) (xs : List NamedType) (e : Error) → x ≡ results.Named l → xs ≡ map named_type_of l.items
    → ((numbering : Numbering) → Fails (HasResult (scope_of numbering g ks)) (ResultBroken kind (scope_of numbering g ks) e) [] xs) → (numbering : Numbering) → ResultsBroken kind (scope_of numbering g ks) (result_list_of x) e
named_break kind g ks x l xs e is trees h numbering =
    subst (λ (y : CodeResultList). ResultsBroken kind (scope_of numbering g ks) (result_list_of y) e) (sym is) (subst (Fails (HasResult (scope_of numbering g ks)) (ResultBroken kind (scope_of numbering g ks) e) []) trees (h numbering))

-- ---- function types

each_both : (P : ItemKind → Type 0) (cs ds : List (Slot × Option ItemKind)) → EachKind P cs → EachKind P ds → EachKind P (cs ++ ds)
each_both P [] ds h i = i
each_both P (c ∷ cs) ds h i = (h.0, each_both P cs ds h.1 i)

pub func_kinds : (es : List Entry) (r : FuncResults) (ps : List (String Global × ValueType)) → EachKind (Names es) (result_children r) → TypesNamed es (by_name ps) → EachKind (Names es) (result_children r ++ value_children ps)
func_kinds es r ps h i = each_both (Names es) (result_children r) (value_children ps) h (values_named es ps i)

pub func_is : (old mid late new : Parts) (ks : Named ItemKind) (first ps : Named ValueType) (f : FuncType) (r : FuncResults) (id : FuncTypeId)
    → ItemsNamed old.types ks → ParamSteps old mid ks first ps f.params → ResultsAre mid late ks f.results r
    → AddsFunc late new (λ numbering. func_entry f.is_async (results_mean (entry_means numbering late) r) (values_mean (entry_means numbering late) ps)) id → FuncIs old new ks first f id
func_is old mid late new ks first ps f r id named p q a = record {
  grows = plainly_on old mid new p.grows (plainly_on mid late new q.grows a.grows);
  named = a.named;
  is = λ numbering.
      let scope : scope_of numbering mid ks ≡ scope_of numbering old ks = scope_kept old mid ks numbering p.grows.grows named in
      let rs : List (Slot × Meaning) = results_mean (entry_means numbering late) r in
      let kept : types_named numbering late ps ≡ types_named numbering mid ps = parts_kept given mid late ps numbering q.grows.grows p.named in
      (types_named numbering mid ps, rs, p.go numbering, subst (λ (s : Scope). HasResults s f.results rs) scope (q.are numbering), a.is numbering ∙ ap (λ (l : Named Meaning). func_entry f.is_async rs l) kept);
}

pub func_results_break : (kind : FuncKind) (old mid : Parts) (ks : Named ItemKind) (first ps : Named ValueType) (f : FuncType) (e : Error)
    → ItemsNamed old.types ks → ParamSteps old mid ks first ps f.params → ((numbering : Numbering) → ResultsBroken kind (scope_of numbering mid ks) f.results e) → (numbering : Numbering) → FuncBroken kind (scope_of numbering old ks) (types_named numbering old first) f e
func_results_break kind old mid ks first ps f e named p h numbering =
    let scope : scope_of numbering mid ks ≡ scope_of numbering old ks = scope_kept old mid ks numbering p.grows.grows named in
    inr (types_named numbering mid ps, p.go numbering, subst (λ (s : Scope). ResultsBroken kind s f.results e) scope (h numbering))

-- ---- constructors and methods

pub constructor_is : (old mid new : Parts) (ks : Named ItemKind) (first ps : Named ValueType) (resource : ResourceId) (xs : List NamedType) (id : FuncTypeId) → first ≡ [] → Names old.types (kinds.Ty (types.Resource resource)) → ParamSteps old mid ks first ps xs
    → AddsFunc mid new (λ numbering. func_entry false (results_mean (entry_means numbering mid) (given_results.Scalar (values.Own resource))) (values_mean (entry_means numbering mid) ps)) id → ConstructorIs old new ks resource xs id
constructor_is old mid new ks first ps resource xs id none there p a =
    let q : ParamSteps old mid ks [] ps xs = subst (λ (l : Named ValueType). ParamSteps old mid ks l ps xs) none p in
    record {
      grows = plainly_on old mid new q.grows a.grows;
      named = a.named;
      is = λ numbering.
          let kept : entry_means numbering mid resource.0 ≡ entry_means numbering old resource.0 = ap entry_of (q.grows.grows.kinds numbering (kinds.Ty (types.Resource resource)) there) in
          (types_named numbering mid ps, q.go numbering, a.is numbering ∙ ap (λ (m : Meaning). func_entry false (one_result (own_of m)) (types_named numbering mid ps)) kept);
    }

pub constructor_breaks : (g : Parts) (ks : Named ItemKind) (first : Named ValueType) (xs : List NamedType) (e : Error) → first ≡ [] → ((numbering : Numbering) → ParamsBroken funcs.Constructor (scope_of numbering g ks) (types_named numbering g first) xs e)
    → (numbering : Numbering) → ParamsBroken funcs.Constructor (scope_of numbering g ks) [] xs e
constructor_breaks g ks first xs e none h numbering = subst (λ (l : Named ValueType). ParamsBroken funcs.Constructor (scope_of numbering g ks) (types_named numbering g l) xs e) none (h numbering)

own_params_mean : (numbering : Numbering) (g : Parts) (is_static : Bool) (resource : ResourceId) → types_named numbering g (own_params is_static resource) ≡ first_params is_static (entry_means numbering g resource.0)
own_params_mean numbering g true resource = refl
own_params_mean numbering g false resource = refl

own_params_named : (es : List Entry) (is_static : Bool) (resource : ResourceId) → Names es (kinds.Ty (types.Resource resource)) → TypesNamed es (own_params is_static resource)
own_params_named es true resource h = tt
own_params_named es false resource h = (h, tt)

pub first_named : (es : List Entry) (is_static : Bool) (resource : ResourceId) (ps : Named ValueType) → ps ≡ own_params is_static resource → Names es (kinds.Ty (types.Resource resource)) → TypesNamed es ps
first_named es is_static resource ps is h = subst (TypesNamed es) (sym is) (own_params_named es is_static resource h)

first_mean : (numbering : Numbering) (g : Parts) (is_static : Bool) (resource : ResourceId) (ps : Named ValueType) → ps ≡ own_params is_static resource → types_named numbering g ps ≡ first_params is_static (entry_means numbering g resource.0)
first_mean numbering g is_static resource ps is = ap (types_named numbering g) is ∙ own_params_mean numbering g is_static resource

pub method_is : (old new : Parts) (ks : Named ItemKind) (is_static : Bool) (resource : ResourceId) (ps : Named ValueType) (f : FuncType) (id : FuncTypeId) → ps ≡ own_params is_static resource → FuncIs old new ks ps f id
    → FuncAdded old new ks (λ numbering scope entry. IsFuncWith scope (first_params is_static (entry_means numbering old resource.0)) f entry) id
method_is old new ks is_static resource ps f id is h = record {
  grows = h.grows;
  named = h.named;
  is = λ numbering. subst (λ (l : Named Meaning). IsFuncWith (scope_of numbering old ks) l f (entry_means numbering new id.0)) (first_mean numbering old is_static resource ps is) (h.is numbering);
}

pub method_breaks : (kind : FuncKind) (g : Parts) (ks : Named ItemKind) (is_static : Bool) (resource : ResourceId) (ps : Named ValueType) (f : FuncType) (e : Error) → kind ≡ method_kind is_static → ps ≡ own_params is_static resource
    → ((numbering : Numbering) → FuncBroken kind (scope_of numbering g ks) (types_named numbering g ps) f e) → (numbering : Numbering) → FuncBroken (method_kind is_static) (scope_of numbering g ks) (first_params is_static (entry_means numbering g resource.0)) f e
method_breaks kind g ks is_static resource ps f e same is h numbering =
    subst (λ (k : FuncKind). FuncBroken k (scope_of numbering g ks) (first_params is_static (entry_means numbering g resource.0)) f e) same
    (subst (λ (l : Named Meaning). FuncBroken kind (scope_of numbering g ks) l f e) (first_mean numbering g is_static resource ps is) (h numbering))
