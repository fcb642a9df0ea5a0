-- What an instance leaves open, import by import.
use Rattle.wac_resolution_statements.proofs.Common.{◌≡◌, ◌∙◌, ℕ, List, [], ◌∷◌, ◌++◌, Option, Some, None, Bool, true, false, cond, refl, sym, ap, subst, is_none, slice_get, ItemKind, world_imports, Named, look_up, Parts, package_of, arguments_of, HeldPackage, Error, error_model}
use Rattle.std.proofs.Common.{Result, Ok, Err, OnOk, IfErr}
use Rattle.wac_resolution_errors.specs.declared.error.Error.{Error as CodeError}
use Rattle.wac_resolution_statements.specs.Imported.{of_kind, left_open, package_imports, open_at}
use Rattle.wac_resolution_statements.specs.Testing.{Testing, Allowed, Denied, AllAllowed, SomeDenied, nowhere}

pub given_one : (arguments : Named ℕ) (x : List ℕ × ItemKind) (n : ℕ) → look_up x.0 arguments ≡ Some n → left_open arguments (x ∷ []) ≡ []
given_one arguments x n is = ap (λ (o : Option ℕ). cond (is_none o) (x ∷ []) []) is

pub open_one : (arguments : Named ℕ) (x : List ℕ × ItemKind) → look_up x.0 arguments ≡ None → left_open arguments (x ∷ []) ≡ x ∷ []
open_one arguments x is = ap (λ (o : Option ℕ). cond (is_none o) (x ∷ []) []) is

pub open_more : (arguments : Named ℕ) (x : List ℕ × ItemKind) (left : Named ItemKind) → left_open arguments (x ∷ left) ≡ left_open arguments (x ∷ []) ++ left_open arguments left
open_more arguments x left = go (is_none (look_up x.0 arguments))
  where
    go : (b : Bool) → cond b (x ∷ left_open arguments left) (left_open arguments left) ≡ cond b (x ∷ []) [] ++ left_open arguments left
    go true = refl
    go false = refl

pub open_rest : (arguments : Named ℕ) (rest left : Named ItemKind) (x : List ℕ × ItemKind) → rest ≡ x ∷ left → left_open arguments rest ≡ left_open arguments (x ∷ []) ++ left_open arguments left
open_rest arguments rest left x is = ap (left_open arguments) is ∙ open_more arguments x left

-- an import for which there is an argument needs no test; any other is tested by itself
pub given_allowed : (t : Testing) (arguments : Named ℕ) (x : List ℕ × ItemKind) (n : ℕ) → look_up x.0 arguments ≡ Some n → AllAllowed t (of_kind t.graph) (left_open arguments (x ∷ []))
given_allowed t arguments x n is = subst (AllAllowed t (of_kind t.graph)) (sym (given_one arguments x n is)) tt

pub open_allowed : (t : Testing) (arguments : Named ℕ) (x : List ℕ × ItemKind) → look_up x.0 arguments ≡ None → Allowed t (of_kind t.graph x) → AllAllowed t (of_kind t.graph) (left_open arguments (x ∷ []))
open_allowed t arguments x is h = subst (AllAllowed t (of_kind t.graph)) (sym (open_one arguments x is)) (h, tt)

pub open_denied_one : (t : Testing) (arguments : Named ℕ) (x : List ℕ × ItemKind) (e : Error) → look_up x.0 arguments ≡ None → Denied t (of_kind t.graph x) None e → SomeDenied t (of_kind t.graph) nowhere (left_open arguments (x ∷ [])) e
open_denied_one t arguments x e is h = subst (λ (l : Named ItemKind). SomeDenied t (of_kind t.graph) nowhere l e) (sym (open_one arguments x is)) (x, ([], [], refl, tt), h)

pub all_open : (t : Testing) (arguments : Named ℕ) (x : List ℕ × ItemKind) (r : Result (Unit {0}) CodeError) → look_up x.0 arguments ≡ None → OnOk r (Allowed t (of_kind t.graph x)) → OnOk r (AllAllowed t (of_kind t.graph) (left_open arguments (x ∷ [])))
all_open t arguments x (Ok u) is h = open_allowed t arguments x is h
all_open t arguments x (Err e) is h = tt

pub some_open : (t : Testing) (arguments : Named ℕ) (x : List ℕ × ItemKind) (r : Result (Unit {0}) CodeError) → look_up x.0 arguments ≡ None → IfErr r (λ e. Denied t (of_kind t.graph x) None (error_model e))
    → IfErr r (λ e. SomeDenied t (of_kind t.graph) nowhere (left_open arguments (x ∷ [])) (error_model e))
some_open t arguments x (Ok u) is h = tt
some_open t arguments x (Err e) is h = open_denied_one t arguments x (error_model e) is h

-- ---- instances of packages

pub held_imports : (g : Parts) (p : ℕ) (h : HeldPackage) → slice_get g.packages p ≡ Some h → package_imports g p ≡ world_imports g.types h.world.0
held_imports g p h is = ap (λ (o : Option HeldPackage). elim o as (λ _. Named ItemKind) [ None ↦ [] | Some x ↦ world_imports g.types x.world.0 ]) is

pub instance_opens : (g : Parts) (n p : ℕ) → package_of g n ≡ Some p → open_at g n ≡ left_open (arguments_of g n) (package_imports g p)
instance_opens g n p is = ap (λ (o : Option ℕ). elim o as (λ _. Named ItemKind) [ None ↦ [] | Some q ↦ left_open (arguments_of g n) (package_imports g q) ]) is

pub other_opens : (g : Parts) (n : ℕ) → package_of g n ≡ None → open_at g n ≡ []
other_opens g n is = ap (λ (o : Option ℕ). elim o as (λ _. Named ItemKind) [ None ↦ [] | Some q ↦ left_open (arguments_of g n) (package_imports g q) ]) is
