-- The first of a list that fails.
use Rattle.wac_resolution_statements.proofs.Common.{◌≡◌, ◌∙◌, List, [], ◌∷◌, ◌++◌, sym, ap, subst, append-nil, AllByRecursion, Error}
use Rattle.std.proofs.Common.{Result, Ok, Err, OnOk, IfErr}
use Rattle.std.proofs.lemmas.List.{append_assoc}
use Rattle.wac_resolution_statements.specs.Testing.{FirstFails}

pub all_append : {X : Type 0} (P : X → Type 0) (xs ys : List X) → AllByRecursion P xs → AllByRecursion P ys → AllByRecursion P (xs ++ ys)
all_append P [] ys h k = k
all_append P (x ∷ xs) ys h k = (h.0, all_append P xs ys h.1 k)

-- all before the rest pass
pub record Through {X : Type 0} (P : X → Type 0) (all rest : List X) : Type 0 where
  pub before : List X
  pub split : all ≡ before ++ rest
  pub pass : AllByRecursion P before

pub through_more : {X : Type 0} (P : X → Type 0) (all rest left mid : List X) → rest ≡ mid ++ left → AllByRecursion P mid → Through P all rest → Through P all left
through_more P all rest left mid is h t = record {
  before = t.before ++ mid;
  split = t.split ∙ ap (λ l. t.before ++ l) is ∙ sym (append_assoc t.before mid left);
  pass = all_append P t.before mid t.pass h;
}

pub through_next : {X : Type 0} (P : X → Type 0) (all rest left : List X) (x : X) → rest ≡ x ∷ left → P x → Through P all rest → Through P all left
through_next P all rest left x is h t = through_more P all rest left (x ∷ []) is (h, tt) t

pub through_all : {X : Type 0} (P : X → Type 0) (all rest : List X) → rest ≡ [] → Through P all rest → AllByRecursion P all
through_all {X} P all rest is t =
    let nil : t.before ++ [] ≡ t.before = simp append-nil in
    subst (AllByRecursion P) (sym (t.split ∙ ap (λ (l : List X). t.before ++ l) is ∙ nil)) t.pass

pub fails_within : {X : Type 0} (P : X → Type 0) (D : X → Error → Type 0) (all rest left mid : List X) (e : Error) → rest ≡ mid ++ left → Through P all rest → FirstFails P D mid e → FirstFails P D all e
fails_within {X} P D all rest left mid e is t (x, at, d) = (
  x,
  (
    t.before ++ at.0,
    at.1 ++ left,
    t.split ∙ ap (λ (l : List X). t.before ++ l) (is ∙ ap (λ (l : List X). l ++ left) at.2 ∙ append_assoc at.0 (x ∷ at.1) left) ∙ sym (append_assoc t.before at.0 (x ∷ (at.1 ++ left))),
    all_append P t.before at.0 t.pass at.3,
  ),
  d,
)

pub fails_here : {X : Type 0} (P : X → Type 0) (D : X → Error → Type 0) (all rest left : List X) (x : X) (e : Error) → rest ≡ x ∷ left → Through P all rest → D x e → FirstFails P D all e
fails_here P D all rest left x e is t d = (x, (t.before, left, t.split ∙ ap (λ l. t.before ++ l) is, t.pass), d)

pub first_there : {X : Type 0} (P : X → Type 0) (rest left : List X) (x : X) → rest ≡ x ∷ left → AllByRecursion P rest → P x
first_there P rest left x is h = (subst (AllByRecursion P) is h).0

pub left_there : {X : Type 0} (P : X → Type 0) (rest left : List X) (x : X) → rest ≡ x ∷ left → AllByRecursion P rest → AllByRecursion P left
left_there P rest left x is h = (subst (AllByRecursion P) is h).1

-- ---- what a call returned

pub as_ok : {E : Type 0} (r : Result (Unit {0}) E) (A B : Type 0) → (A → B) → OnOk r A → OnOk r B
as_ok (Ok u) A B f h = f h
as_ok (Err e) A B f h = tt

pub as_err : {E : Type 0} (r : Result (Unit {0}) E) (A B : E → Type 0) → ((e : E) → A e → B e) → IfErr r A → IfErr r B
as_err (Ok u) A B f h = tt
as_err (Err e) A B f h = f e h
