-- What pairs agree on, place by place, and as more are added.
use Rattle.wac_tool_graphs.proofs.Common.{◌≡◌, ℕ, zero, suc, List, [], ◌∷◌, ◌++◌, Bool, true, false, cond, Option, Some, None, IfSome, refl, sym, ap, ◌∙◌, subst, nat_eq, slice_get, Meaning, eqb-true}
use Rattle.wac_tool_graphs.specs.Pairs.{Agree, Keeps, Reduces}
use Rattle.std.specs.Map.{lookup}
use Rattle.std.specs.Prelude.{Result, Ok, Err, OnOk}
use Rattle.indexmap.specs.IndexMap.{insert_entry}

pub agree_at : (means : ℕ → Meaning) (ps : List (ℕ × ℕ)) (k : ℕ) (p : ℕ × ℕ) → Agree means ps → slice_get ps k ≡ Some p → means p.0 ≡ means p.1
agree_at means [] k p h is = absurd (cc)
agree_at means (q ∷ ps) zero p h is = let e : q ≡ p = cc in subst (λ (r : ℕ × ℕ). means r.0 ≡ means r.1) e h.0
agree_at means (q ∷ ps) (suc k) p h is = agree_at means ps k p h.1 is

pub agree_each : (means : ℕ → Meaning) (ps : List (ℕ × ℕ)) → ((k : ℕ) (p : ℕ × ℕ) → slice_get ps k ≡ Some p → means p.0 ≡ means p.1) → Agree means ps
agree_each means [] each = tt
agree_each means (q ∷ ps) each = (each 0 q refl, agree_each means ps (λ k p is. each (suc k) p is))

-- what agrees on more pairs agrees on those before
pub agree_before : (means : ℕ → Meaning) (old new : List (ℕ × ℕ)) → Keeps old new → Agree means new → Agree means old
agree_before means old new keeps h = agree_each means old (λ k p is. agree_at means new k p h (keeps k p is))

agree_last : (means : ℕ → Meaning) (ps : List (ℕ × ℕ)) (i j : ℕ) → Agree means ps → means i ≡ means j → Agree means (ps ++ (i, j) ∷ [])
agree_last means [] i j h last = (last, tt)
agree_last means (p ∷ ps) i j h last = (h.0, agree_last means ps i j h.1 last)

last_of : (means : ℕ → Meaning) (ps : List (ℕ × ℕ)) (i j : ℕ) → Agree means (ps ++ (i, j) ∷ []) → means i ≡ means j
last_of means [] i j h = h.0
last_of means (p ∷ ps) i j h = last_of means ps i j h.1

pub last_agrees : (means : ℕ → Meaning) (ps new : List (ℕ × ℕ)) (i j : ℕ) → new ≡ ps ++ (i, j) ∷ [] → Agree means new → means i ≡ means j
last_agrees means ps new i j is h = last_of means ps i j (subst (λ (l : List (ℕ × ℕ)). Agree means l) is h)

keeps_more : (ps qs : List (ℕ × ℕ)) → Keeps ps (ps ++ qs)
keeps_more [] qs k p is = absurd (cc)
keeps_more (q ∷ ps) qs zero p is = is
keeps_more (q ∷ ps) qs (suc k) p is = keeps_more ps qs k p is

-- what agrees on the pairs after a push agrees on those before
pub pushed_before : (means : ℕ → Meaning) (ps new : List (ℕ × ℕ)) (i j : ℕ) (b : Bool) → new ≡ cond b (ps ++ (i, j) ∷ []) ps → Agree means new → Agree means ps
pushed_before means ps new i j true is h = agree_before means ps (ps ++ (i, j) ∷ []) (keeps_more ps ((i, j) ∷ [])) (subst (λ (l : List (ℕ × ℕ)). Agree means l) is h)
pushed_before means ps new i j false is h = subst (λ (l : List (ℕ × ℕ)). Agree means l) is h

-- a pair of entries that mean the same where the others do
pub there : (old ps : List (ℕ × ℕ)) (i j : ℕ) → ps ≡ old → ((means : ℕ → Meaning) → Agree means ps → means i ≡ means j) → Reduces (λ means. means i ≡ means j) true old ps
there old ps i j is same = record {
  keeps = (let P : List (ℕ × ℕ) → Type 0 = λ l. Keeps l ps in subst P is (λ k p at. at));
  needed = λ means h alike. (refl, subst (λ (l : List (ℕ × ℕ)). Agree means l) (sym is) h);
  enough = λ means yes h. same means h;
}

added : (ps : List (ℕ × ℕ)) (i j : ℕ) → Reduces (λ means. means i ≡ means j) true ps (ps ++ (i, j) ∷ [])
added ps i j = record {
  keeps = keeps_more ps ((i, j) ∷ []);
  needed = λ means h same. (refl, agree_last means ps i j h same);
  enough = λ means yes h. last_of means ps i j h;
}

-- a new pair
pub added_after : (old ps new : List (ℕ × ℕ)) (i j : ℕ) → ps ≡ old → new ≡ ps ++ (i, j) ∷ [] → Reduces (λ means. means i ≡ means j) true old new
added_after old ps new i j first last =
    let P : List (ℕ × ℕ) → Type 0 = λ l. Reduces (λ means. means i ≡ means j) true l new in
    let Q : List (ℕ × ℕ) → Type 0 = λ l. Reduces (λ means. means i ≡ means j) true ps l in
    subst P first (subst Q (sym last) (added ps i j))

pub on_ok : {X E : Type 0} {P : Type 0} (r : Result X E) → P → OnOk r P
on_ok (Ok x) p = p
on_ok (Err e) p = tt

-- ---- leaders

pub leads : (means : ℕ → Meaning) (es : List (ℕ × ℕ)) (x l : ℕ) → lookup (nat_eq x) es ≡ Some l → Agree means es → means x ≡ means l
leads means [] x l is h = absurd (cc)
leads means (e ∷ es) x l is h = go (leads means es x l) (nat_eq x e.0) refl is
  where
    go : (lookup (nat_eq x) es ≡ Some l → Agree means es → means x ≡ means l) → (b : Bool) → nat_eq x e.0 ≡ b → cond b (Some e.1) (lookup (nat_eq x) es) ≡ Some l → means x ≡ means l
    go later true at found = (let one : e.1 ≡ l = cc in ap means (eqb-true x e.0 at) ∙ h.0 ∙ ap means one)
    go later false at found = later found h.1

pub if_led : (es : List (ℕ × ℕ)) (x : ℕ) (o : Option ℕ) → o ≡ lookup (nat_eq x) es → IfSome o (λ l. (means : ℕ → Meaning) → Agree means es → means x ≡ means l)
if_led es x None is = tt
if_led es x (Some l) is = λ means h. leads means es x l (sym is) h

pub led : (means : ℕ → Meaning) (es : List (ℕ × ℕ)) (x l : ℕ) → Agree means es → means x ≡ means l → Agree means (insert_entry nat_eq es x l)
led means [] x l h same = (same, tt)
led means (e ∷ es) x l h same = go (led means es x l h.1 same) (nat_eq x e.0) refl
  where
    go : Agree means (insert_entry nat_eq es x l) → (b : Bool) → nat_eq x e.0 ≡ b → Agree means (cond b ((e.0, l) ∷ es) (e ∷ insert_entry nat_eq es x l))
    go later true at = (sym (ap means (eqb-true x e.0 at)) ∙ same, h.1)
    go later false at = (h.0, later)

-- what holds of no meanings
pub denied : (P : (ℕ → Meaning) → Type 0) (old new : List (ℕ × ℕ)) → Keeps old new → ((means : ℕ → Meaning) → Agree means old → P means → ⊥) → Reduces P false old new
denied P old new keeps deny = record {
  keeps = keeps;
  needed = λ means h p. absurd (deny means h p);
  enough = λ means yes h. absurd (cc);
}
