-- Named parts that are taken in order.
use Rattle.wac_resolution_types.proofs.Common.{◌≡◌, ◌∙◌, ◌+◌, ◌<◌, ℕ, List, [], ◌∷◌, Option, Some, refl, sym, ap, subst, map, take, length, get_or, option_map, IfSome, String, Global, map_push, Ident, ItemKind, ValueType, Entry, optional, value_children, named_result_children, case_children, Meaning, EachKind, by_name, Named, Scope, look_up, StandsFor, IsFresh, with_named, optional_means, Fails, Names, ItemsNamed, Parts, entry_means, Numbering, steps_on_map, fails_at_map, Grows, GrowsPlainly, scope_of, grows_self, plainly_on, scope_kept, child_kept, child_named}
use Rattle.wac_resolution_types.specs.NamedParts.{parts_mean, PartsNamed, PartRelation, HasPart, PartStep, PartSteps}
use Rattle.wac_resolution_state.proofs.Bound.{read_found}

-- ---- what stays

pub parts_kept : {V : Type 0} (read : V → Option ValueType) (old new : Parts) (all : Named V) (numbering : Numbering) → Grows old new → PartsNamed read old.types all → parts_mean read numbering new all ≡ parts_mean read numbering old all
parts_kept read old new [] numbering g h = refl
parts_kept read old new (e ∷ all) numbering g h =
    let one : optional_means (entry_means numbering new) (read e.1) ≡ optional_means (entry_means numbering old) (read e.1) = child_kept old new (optional (read e.1)) numbering g h.0 in
    let rest : parts_mean read numbering new all ≡ parts_mean read numbering old all = parts_kept read old new all numbering g h.1 in
    cc

pub parts_still_named : {V : Type 0} (read : V → Option ValueType) (old new : Parts) (all : Named V) → Grows old new → PartsNamed read old.types all → PartsNamed read new.types all
parts_still_named read old new [] g h = tt
parts_still_named read old new (e ∷ all) g h = (child_named old new (optional (read e.1)) g h.0, parts_still_named read old new all g h.1)

parts_append : {V : Type 0} (read : V → Option ValueType) (es : List Entry) (all : Named V) (name : List ℕ) (v : V) → PartsNamed read es all → IfSome (optional (read v)) (Names es) → PartsNamed read es (with_named all name v)
parts_append read es [] name v h here = (here, tt)
parts_append read es (e ∷ all) name v h here = (h.0, parts_append read es all name v h.1 here)

-- ---- one part

pub part_goes : {V X : Type 0} (read : V → Option ValueType) (has : Scope → X → Meaning → Type 0) (id : X → Ident) (old new : Parts) (ks : Named ItemKind) (ps qs : Named V) (x : X) (v : V)
    → GrowsPlainly old new → PartsNamed read old.types ps → IfSome (optional (read v)) (Names new.types) → ((numbering : Numbering) → has (scope_of numbering old ks) x (optional_means (entry_means numbering new) (read v)))
    → IsFresh (id x).string ps → qs ≡ with_named ps (id x).string v → PartStep read (HasPart has id) old new ks ps qs x
part_goes {V} read has id old new ks ps qs x v g named here is fresh added = record {
  grows = g;
  named = subst (PartsNamed read new.types) (sym added) (parts_append read new.types ps (id x).string v (parts_still_named read old new ps g.grows named) here);
  goes = λ numbering.
      let one : V → Meaning = λ (w : V). optional_means (entry_means numbering new) (read w) in (
        one v,
        is numbering,
        read_found (λ w. optional_means (entry_means numbering old) (read w)) (id x).string ps ∙ ap (option_map (λ w. optional_means (entry_means numbering old) (read w))) fresh,
        ap (parts_mean read numbering new) added ∙ map_push (λ e. (e.0, one e.1)) ps ((id x).string, v) ∙ ap (λ (l : Named Meaning). with_named l (id x).string (one v)) (parts_kept read old new ps numbering g.grows named),
      );
}

-- an earlier part has the name
part_stands : {V : Type 0} (read : V → Option ValueType) (numbering : Numbering) (g : Parts) (all : Named V) (name : List ℕ) (v : V) → look_up name all ≡ Some v → StandsFor (parts_mean read numbering g all) name (optional_means (entry_means numbering g) (read v))
part_stands read numbering g all name v is = read_found (λ w. optional_means (entry_means numbering g) (read w)) name all ∙ ap (option_map (λ w. optional_means (entry_means numbering g) (read w))) is

pub repeated : {V : Type 0} (read : V → Option ValueType) (all : Named V) (name : List ℕ) (v : V) → look_up name all ≡ Some v → (numbering : Numbering) (g : Parts) → (m : Meaning) × StandsFor (parts_mean read numbering g all) name m
repeated read all name v is numbering g = (optional_means (entry_means numbering g) (read v), part_stands read numbering g all name v is)

-- ---- parts in order

pub no_parts : {V X : Type 0} (read : V → Option ValueType) (step : PartRelation X) (g : Parts) (ks : Named ItemKind) (ps : Named V) → PartsNamed read g.types ps → PartSteps read step g g ks ps ps []
no_parts read step g ks ps h = record { grows = grows_self g; named = h; go = λ numbering. refl }

-- the parts up to the next one
pub parts_step : {V X Y : Type 0} (read : V → Option ValueType) (step : PartRelation X) (f : Y → X) (old mid new : Parts) (ks : Named ItemKind) (ps qs rs : Named V) (ys : List Y) (i : ℕ) (y : Y)
    → i < length ys → y ≡ get_or ys i y → ItemsNamed old.types ks → PartSteps read step old mid ks ps qs (take i (map f ys)) → PartStep read step mid new ks qs rs (f y) → PartSteps read step old new ks ps rs (take (i + 1) (map f ys))
parts_step {V} {X} {Y} read step f old mid new ks ps qs rs ys i y within at named p q = record {
  grows = plainly_on old mid new p.grows q.grows;
  named = q.named;
  go = λ numbering.
      let scope : scope_of numbering mid ks ≡ scope_of numbering old ks = scope_kept old mid ks numbering p.grows.grows named in
      let here : step (scope_of numbering old ks) (parts_mean read numbering mid qs) (f y) (parts_mean read numbering new rs) = subst (λ (s : Scope). step s (parts_mean read numbering mid qs) (f y) (parts_mean read numbering new rs)) scope (q.goes numbering) in
      steps_on_map (step (scope_of numbering old ks)) f (parts_mean read numbering old ps) ys i y (parts_mean read numbering mid qs) (parts_mean read numbering new rs) within (p.go numbering)
      (subst (λ (z : Y). step (scope_of numbering old ks) (parts_mean read numbering mid qs) (f z) (parts_mean read numbering new rs)) at here);
}

-- all parts
pub parts_all : {V X : Type 0} (read : V → Option ValueType) (step : PartRelation X) (old new : Parts) (ks : Named ItemKind) (ps qs : Named V) (xs ys : List X) → xs ≡ ys → PartSteps read step old new ks ps qs xs → PartSteps read step old new ks ps qs ys
parts_all read step old new ks ps qs xs ys is h = subst (PartSteps read step old new ks ps qs) is h

-- the next part is broken
pub parts_break : {V X Y : Type 0} (read : V → Option ValueType) (step : PartRelation X) (broken : Scope → Named Meaning → List X → X → Type 0) (f : Y → X) (old mid : Parts) (ks : Named ItemKind) (ps qs : Named V) (ys : List Y) (i : ℕ) (y : Y)
    → i < length ys → y ≡ get_or ys i y → ItemsNamed old.types ks → PartSteps read step old mid ks ps qs (take i (map f ys)) → ((numbering : Numbering) (before : List X) → broken (scope_of numbering mid ks) (parts_mean read numbering mid qs) before (f y))
    → (numbering : Numbering) → Fails (step (scope_of numbering old ks)) (broken (scope_of numbering old ks)) (parts_mean read numbering old ps) (map f ys)
parts_break {V} {X} {Y} read step broken f old mid ks ps qs ys i y within at named p breaks numbering =
    let scope : scope_of numbering mid ks ≡ scope_of numbering old ks = scope_kept old mid ks numbering p.grows.grows named in
    let before : List X = take i (map f ys) in
    fails_at_map (step (scope_of numbering old ks)) (broken (scope_of numbering old ks)) f (parts_mean read numbering old ps) ys i y (parts_mean read numbering mid qs) within (p.go numbering)
    (subst (λ (z : Y). broken (scope_of numbering old ks) (parts_mean read numbering mid qs) before (f z)) at
    (subst (λ (s : Scope). broken s (parts_mean read numbering mid qs) before (f y)) scope (breaks numbering before)))

-- ---- what is in an entry

pub values_named : (es : List Entry) (all : List (String Global × ValueType)) → PartsNamed (λ v. Some v) es (by_name all) → EachKind (Names es) (value_children all)
values_named es [] h = tt
values_named es (e ∷ all) h = (h.0, values_named es all h.1)

pub results_named : (es : List Entry) (all : List (String Global × ValueType)) → PartsNamed (λ v. Some v) es (by_name all) → EachKind (Names es) (named_result_children all)
results_named es [] h = tt
results_named es (e ∷ all) h = (h.0, results_named es all h.1)

pub cases_named : (es : List Entry) (all : List (String Global × Option ValueType)) → PartsNamed (λ v. v) es (by_name all) → EachKind (Names es) (case_children all)
cases_named es [] h = tt
cases_named es (e ∷ all) h = (h.0, cases_named es all h.1)
