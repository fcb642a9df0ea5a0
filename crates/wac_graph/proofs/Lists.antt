-- Lists by number and by name, as one more element is appended, or one is put in another's place.
use Rattle.wac_graph.proofs.Common.{◌≡◌, ◌∙◌, ◌<◌, ◌≤◌, ◌+◌, ℕ, zero, suc, Option, Some, None, List, [], ◌∷◌, ◌++◌, length, refl, sym, ap, subst, arith, Bool, true, false, cond, ◌⊎◌, inl, inr, map, option_map, slice_get, slice_set, nat_lt, not, AllByRecursion, position, position_or_len, bytes_eq, lt-ltb, bytes_eq-Decides, Named, look_up, IsFresh}
use Rattle.wac_graph.specs.Sound.{EachAt, Differ, name_in}

-- ---- by number

pub get_kept : {X : Type 0} (xs ys : List X) (i : ℕ) (x : X) → slice_get xs i ≡ Some x → slice_get (xs ++ ys) i ≡ Some x
get_kept [] ys i x h = absurd (cc)
get_kept (z ∷ xs) ys zero x h = h
get_kept (z ∷ xs) ys (suc i) x h = get_kept xs ys i x h

pub get_last : {X : Type 0} (xs : List X) (y : X) → slice_get (xs ++ y ∷ []) (length xs) ≡ Some y
get_last [] y = refl
get_last (x ∷ xs) y = get_last xs y

-- what is in a list with one more element was there before, or is that element
pub get_more : {X : Type 0} (xs : List X) (y x : X) (i : ℕ) → slice_get (xs ++ y ∷ []) i ≡ Some x → (slice_get xs i ≡ Some x) ⊎ ((i ≡ length xs) × (y ≡ x))
get_more [] y x zero h = inr (refl, (cc))
get_more [] y x (suc i) h = absurd (cc)
get_more (z ∷ xs) y x zero h = inl h
get_more (z ∷ xs) y x (suc i) h = elim (get_more xs y x i h) [ inl a ↦ inl a | inr b ↦ inr (ap suc b.0, b.1) ]

pub set_here : {X : Type 0} (xs : List X) (k : ℕ) (x y : X) → slice_get xs k ≡ Some x → slice_get (slice_set xs k y) k ≡ Some y
set_here [] k x y h = absurd (cc)
set_here (z ∷ xs) zero x y h = refl
set_here (z ∷ xs) (suc k) x y h = set_here xs k x y h

pub set_other : {X : Type 0} (xs : List X) (k i : ℕ) (y : X) → (i ≡ k → ⊥) → slice_get (slice_set xs k y) i ≡ slice_get xs i
set_other [] k i y n = refl
set_other (z ∷ xs) zero zero y n = absurd (n refl)
set_other (z ∷ xs) zero (suc i) y n = refl
set_other (z ∷ xs) (suc k) zero y n = refl
set_other (z ∷ xs) (suc k) (suc i) y n = set_other xs k i y (λ e. n (ap suc e))

-- what is in a list with another element in a place was there before, or is that element
pub get_set : {X : Type 0} (xs : List X) (k : ℕ) (y x : X) (i : ℕ) → slice_get (slice_set xs k y) i ≡ Some x → (slice_get xs i ≡ Some x) ⊎ ((i ≡ k) × (y ≡ x))
get_set [] k y x i h = absurd (cc)
get_set (z ∷ xs) zero y x zero h = inr (refl, (cc))
get_set (z ∷ xs) zero y x (suc i) h = inl h
get_set (z ∷ xs) (suc k) y x zero h = inl h
get_set (z ∷ xs) (suc k) y x (suc i) h = elim (get_set xs k y x i h) [ inl a ↦ inl a | inr b ↦ inr (ap suc b.0, b.1) ]

-- what is read of each element is what was read, where another is put in a place that reads the same
pub set_read : {X Y : Type 0} (read : X → Y) (xs : List X) (k : ℕ) (x y : X) (i : ℕ) → slice_get xs k ≡ Some x → read y ≡ read x → option_map read (slice_get (slice_set xs k y) i) ≡ option_map read (slice_get xs i)
set_read read [] k x y i is same = refl
set_read read (z ∷ xs) zero x y zero is same = (let here : x ≡ z = cc in ap Some (same ∙ ap read here))
set_read read (z ∷ xs) zero x y (suc i) is same = refl
set_read read (z ∷ xs) (suc k) x y zero is same = refl
set_read read (z ∷ xs) (suc k) x y (suc i) is same = set_read read xs k x y i is same

pub set_length : {X : Type 0} (xs : List X) (i : ℕ) (x : X) → length (slice_set xs i x) ≡ length xs
set_length [] i x = refl
set_length (y ∷ xs) zero x = refl
set_length (y ∷ xs) (suc i) x = ap suc (set_length xs i x)

pub map_set : {X Y : Type 0} (f : X → Y) (xs : List X) (i : ℕ) (x : X) → map f (slice_set xs i x) ≡ slice_set (map f xs) i (f x)
map_set f [] i x = refl
map_set f (y ∷ xs) zero x = refl
map_set {X} {Y} f (y ∷ xs) (suc i) x = ap (λ (l : List Y). f y ∷ l) (map_set f xs i x)

pub each_more : {X : Type 0} (P : ℕ → X → Type 0) (xs : List X) (y : X) → EachAt P xs → P (length xs) y → EachAt P (xs ++ y ∷ [])
each_more {X} P xs y h here i x is = elim (get_more xs y x i is) [
  | inl a ↦ h i x a
  | inr b ↦ subst (λ (k : ℕ). P k x) (sym b.0) (subst (λ (z : X). P (length xs) z) b.1 here)
]

pub each_set : {X : Type 0} (P : ℕ → X → Type 0) (xs : List X) (k : ℕ) (y : X) → EachAt P xs → P k y → EachAt P (slice_set xs k y)
each_set {X} P xs k y h here i x is = elim (get_set xs k y x i is) [
  | inl a ↦ h i x a
  | inr b ↦ subst (λ (j : ℕ). P j x) (sym b.0) (subst (λ (z : X). P k z) b.1 here)
]

pub differ_more : {X Y : Type 0} (f : X → Y) (xs : List X) (y : X) → Differ f xs → ((i : ℕ) (x : X) → slice_get xs i ≡ Some x → f x ≡ f y → ⊥) → Differ f (xs ++ y ∷ [])
differ_more {X} {Y} f xs y h new i j a b at_i at_j same = elim (get_more xs y a i at_i) [
  | inl p ↦ elim (get_more xs y b j at_j) [ inl q ↦ h i j a b p q same | inr q ↦ absurd (new i a p (same ∙ ap f (sym q.1))) ]
  | inr p ↦ elim (get_more xs y b j at_j) [ inl q ↦ absurd (new j b q (sym same ∙ ap f (sym p.1))) | inr q ↦ p.0 ∙ sym q.0 ]
]

-- ---- by name

same_name : (a b : List ℕ) → a ≡ b → bytes_eq a b ≡ true
same_name a b e = (bytes_eq-Decides a b).1 e

-- a name that is fresh is none of the names
pub fresh_other : {X : Type 0} (name : List ℕ) (all : Named X) (i : ℕ) (e : List ℕ × X) → IsFresh name all → slice_get all i ≡ Some e → e.0 ≡ name → ⊥
fresh_other name [] i e new is same = absurd (cc)
fresh_other {X} name (d ∷ all) zero e new is same =
    let first : d ≡ e = cc in
    let here : bytes_eq name d.0 ≡ true = same_name name d.0 (sym (ap (λ (x : List ℕ × X). x.0) first ∙ same)) in
    let found : Some d.1 ≡ None = ap (λ (b : Bool). cond b (Some d.1) (look_up name all)) (sym here) ∙ new in
    cc
fresh_other {X} name (d ∷ all) (suc i) e new is same = fresh_other name all i e (rest (bytes_eq name d.0) new) is same
  where
    rest : (b : Bool) → cond b (Some d.1) (look_up name all) ≡ None → look_up name all ≡ None
    rest true h = absurd (cc)
    rest false h = h

pub names_more : {X : Type 0} (all : Named X) (name : List ℕ) (x : X) → Differ name_in all → IsFresh name all → Differ name_in (all ++ (name, x) ∷ [])
names_more all name x h new = differ_more name_in all (name, x) h (λ i e is same. fresh_other name all i e new is same)

-- what a name finds it still finds
pub found_more : {X : Type 0} (name : List ℕ) (all more : Named X) (x : X) → look_up name all ≡ Some x → look_up name (all ++ more) ≡ Some x
found_more name [] more x h = absurd (cc)
found_more {X} name (d ∷ all) more x h = go (found_more name all more x) (bytes_eq name d.0) h
  where
    go : (look_up name all ≡ Some x → look_up name (all ++ more) ≡ Some x) → (b : Bool) → cond b (Some d.1) (look_up name all) ≡ Some x → cond b (Some d.1) (look_up name (all ++ more)) ≡ Some x
    go later true h = h
    go later false h = later h

-- a new name finds what goes last
pub found_last : {X : Type 0} (name : List ℕ) (all : Named X) (x : X) → IsFresh name all → look_up name (all ++ (name, x) ∷ []) ≡ Some x
found_last name [] x h = ap (λ (b : Bool). cond b (Some x) None) (same_name name name refl)
found_last {X} name (d ∷ all) x h = go (found_last name all x) (bytes_eq name d.0) h
  where
    go : (look_up name all ≡ None → look_up name (all ++ (name, x) ∷ []) ≡ Some x) → (b : Bool) → cond b (Some d.1) (look_up name all) ≡ None → cond b (Some d.1) (look_up name (all ++ (name, x) ∷ [])) ≡ Some x
    go later true h = absurd (cc)
    go later false h = later h

-- another name finds what it found
pub found_other : {X : Type 0} (name other : List ℕ) (all : Named X) (x : X) → (name ≡ other → ⊥) → look_up name (all ++ (other, x) ∷ []) ≡ look_up name all
found_other name other [] x n = go (bytes_eq name other) (bytes_eq-Decides name other).0
  where
    go : (b : Bool) → (b ≡ true → name ≡ other) → cond b (Some x) None ≡ None
    go true same = absurd (n (same refl))
    go false same = refl
found_other {X} name other (d ∷ all) x n = ap (cond (bytes_eq name d.0) (Some d.1)) (found_other name other all x n)

-- what a name finds is among the elements
pub found_in : {X : Type 0} (P : X → Type 0) (name : List ℕ) (all : Named X) (x : X) → AllByRecursion (λ e. P e.1) all → look_up name all ≡ Some x → P x
found_in P name [] x h is = absurd (cc)
found_in {X} P name (d ∷ all) x h is = go (found_in P name all x h.1) (bytes_eq name d.0) is
  where
    go : (look_up name all ≡ Some x → P x) → (b : Bool) → cond b (Some d.1) (look_up name all) ≡ Some x → P x
    go later true h' = (let same : d.1 ≡ x = cc in subst P same h.0)
    go later false h' = later h'

-- ---- all, and the first that passes

pub all_more : {X : Type 0} (P : X → Type 0) (xs : List X) (x : X) → AllByRecursion P xs → P x → AllByRecursion P (xs ++ x ∷ [])
all_more P [] x h here = (here, tt)
all_more P (y ∷ xs) x h here = (h.0, all_more P xs x h.1 here)

pub all_implies : {X : Type 0} (P Q : X → Type 0) → ((x : X) → P x → Q x) → (xs : List X) → AllByRecursion P xs → AllByRecursion Q xs
all_implies P Q f [] h = tt
all_implies P Q f (x ∷ xs) h = (f x h.0, all_implies P Q f xs h.1)

past : (a b : ℕ) (o : Option ℕ) → cond (nat_lt a b) (Some a) o ≡ None → b ≤ a
past a b o h = go (nat_lt a b) (λ lt. lt-ltb a b lt) h
  where
    go : (t : Bool) → (a < b → t ≡ true) → cond t (Some a) o ≡ None → b ≤ a
    go true f h = absurd (cc)
    go false f h = either (grind arith)
      where
        either : (a < b) ⊎ (b ≤ a) → b ≤ a
        either (inl lt) = absurd (let e : false ≡ true = f lt in cc)
        either (inr le) = le

-- where none passes, each fails
pub none_at : {X : Type 0} (p : X → Bool) (xs : List X) (i : ℕ) (x : X) → position p xs ≡ None → slice_get xs i ≡ Some x → p x ≡ false
none_at p xs i x none is = late xs i (past (position_or_len p xs) (length xs) None none) is
  where
    late : (ys : List _) (k : ℕ) → length ys ≤ position_or_len p ys → slice_get ys k ≡ Some x → p x ≡ false
    late [] k le at = absurd (cc)
    late (y ∷ ys) zero le at = (let same : y ≡ x = cc in subst (λ z. p z ≡ false) same (here (p y) le))
      where
        here : (b : Bool) → suc (length ys) ≤ cond (not b) (1 + position_or_len p ys) 0 → b ≡ false
        here true le = absurd (omega arith)
        here false le = refl
    late (y ∷ ys) (suc k) le at = late ys k (rest (p y) le) at
      where
        rest : (b : Bool) → suc (length ys) ≤ cond (not b) (1 + position_or_len p ys) 0 → length ys ≤ position_or_len p ys
        rest true le = absurd (omega arith)
        rest false le = omega arith
