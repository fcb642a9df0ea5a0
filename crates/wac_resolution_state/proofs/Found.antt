-- Names that are found by their last part.
use Rattle.wac_resolution_state.proofs.Common.{◌≡◌, ◌≢◌, ◌∙◌, ◌+◌, ◌<◌, ◌==◌, ℕ, suc, List, [], ◌∷◌, ◌++◌, Option, Some, None, Bool, true, false, cond, refl, sym, ap, subst, map, length, take, drop, reverse, get_or, is_some, arith, not, ◌&&◌, ◌||◌, option_map, unwrap_or, before_first, list_any, prefix_len, AllByRecursion, bytes_eq, reverse-append, reverse-reverse, take-append-drop, ItemKind, Meaning, of_kind, Named, look_up, items_mean, items_found, after_last_slash, is_short_for, only_one, long_names, names_of, find_name}
use Rattle.std.proofs.Common.{append_assoc}
use Rattle.std.specs.Str.Pattern.{RFindsChar}
use Rattle.std.proofs.lemmas.Bool.{ne_eqb}
use Rattle.std.proofs.lemmas.Str.Pattern.{NoCharPasses-char, drop_at_char}
use Rattle.wac_ast_grammar.specs.Version.{is_slash, is_at_sign}

-- ---- among meanings

same_names : {X Y : Type 0} (read : X → Y) (all : Named X) → names_of (map (λ e. (e.0, read e.1)) all) ≡ names_of all
same_names read [] = refl
same_names read (e ∷ all) = ap (λ (l : List (List ℕ)). e.0 ∷ l) (same_names read all)

some_read : {X Y : Type 0} (read : X → Y) (o : Option X) → is_some (option_map read o) ≡ is_some o
some_read read None = refl
some_read read (Some x) = refl

-- what a name finds among kinds, it finds among their meanings
pub found_meant : (f : ℕ → Meaning) (name : List ℕ) (all : Named ItemKind) → find_name name (items_mean f all) ≡ find_name name all
found_meant f name all =
    ap (λ (b : Bool). cond b name (unwrap_or (only_one (long_names name (names_of (items_mean f all)))) name)) (ap is_some (items_found f all name) ∙ some_read (of_kind f) (look_up name all))
    ∙ ap (λ (l : List (List ℕ)). cond (is_some (look_up name all)) name (unwrap_or (only_one (long_names name l)) name)) (same_names (of_kind f) all)

-- ---- the only one

abbrev pub listed : Option (List ℕ) → List (List ℕ)
listed None = []
listed (Some x) = x ∷ []

-- the long names are the one that was found so far, and those among the rest
abbrev pub Finding : List ℕ → List (List ℕ) → List (List ℕ) → Option (List ℕ) → Type 0
Finding name all rest found = listed found ++ long_names name rest ≡ long_names name all

long_next : (name : List ℕ) (x : List ℕ) (left : List (List ℕ)) (b : Bool) → is_short_for name x ≡ b → long_names name (x ∷ left) ≡ cond b (x ∷ long_names name left) (long_names name left)
long_next name x left b is = ap (λ (c : Bool). cond c (x ∷ long_names name left) (long_names name left)) is

pub finding_other : (name : List ℕ) (all rest left : List (List ℕ)) (x : List ℕ) (found : Option (List ℕ)) → rest ≡ x ∷ left → is_short_for name x ≡ false → Finding name all rest found → Finding name all left found
finding_other name all rest left x found is short h =
    ap (λ (l : List (List ℕ)). listed found ++ l) (sym (ap (long_names name) is ∙ long_next name x left false short)) ∙ h

pub finding_first : (name : List ℕ) (all rest left : List (List ℕ)) (x : List ℕ) (found : Option (List ℕ)) → rest ≡ x ∷ left → is_short_for name x ≡ true → found ≡ None → Finding name all rest found → Finding name all left (Some x)
finding_first name all rest left x found is short none h =
    sym (ap (long_names name) is ∙ long_next name x left true short) ∙ ap (λ (o : Option (List ℕ)). listed o ++ long_names name rest) (sym none) ∙ h

pub finding_two : (name : List ℕ) (all rest left : List (List ℕ)) (x y : List ℕ) (found : Option (List ℕ)) → rest ≡ x ∷ left → is_short_for name x ≡ true → found ≡ Some y → Finding name all rest found → None ≡ only_one (long_names name all)
finding_two name all rest left x y found is short some h =
    ap only_one (ap (λ (l : List (List ℕ)). y ∷ l) (sym (ap (long_names name) is ∙ long_next name x left true short)) ∙ ap (λ (o : Option (List ℕ)). listed o ++ long_names name rest) (sym some) ∙ h)

pub finding_end : (name : List ℕ) (all rest : List (List ℕ)) (found : Option (List ℕ)) → rest ≡ [] → Finding name all rest found → found ≡ only_one (long_names name all)
finding_end name all rest None is h = ap only_one (sym (ap (long_names name) is) ∙ h)
finding_end name all rest (Some x) is h = ap only_one (ap (λ (l : List (List ℕ)). x ∷ l) (sym (ap (long_names name) is)) ∙ h)

-- ---- after the last '/'

-- none of the bytes is this one
abbrev Lacks : (ℕ → Bool) → List ℕ → Type 0
Lacks p xs = AllByRecursion (λ b. p b ≡ false) xs

lacks : (c : ℕ) (xs : List ℕ) → ((i : ℕ) → i < length xs → get_or xs i 0 ≢ c) → Lacks (λ b. b == c) xs
lacks c [] h = tt
lacks c (x ∷ xs) h = (ne_eqb x c (h 0 (omega arith)), lacks c xs (λ i lt. h (suc i) (omega (arith, lt))))

lacks_more : (p : ℕ → Bool) (xs : List ℕ) (x : ℕ) → Lacks p xs → p x ≡ false → Lacks p (xs ++ x ∷ [])
lacks_more p [] x h here = (here, tt)
lacks_more p (y ∷ xs) x h here = (h.0, lacks_more p xs x h.1 here)

lacks_back : (p : ℕ → Bool) (xs : List ℕ) → Lacks p xs → Lacks p (reverse xs)
lacks_back p [] h = tt
lacks_back p (x ∷ xs) h = subst (Lacks p) (sym (reverse-append (x ∷ []) xs)) (lacks_more p (reverse xs) x (lacks_back p xs h.1) h.0)

before : (p : ℕ → Bool) (xs : List ℕ) (y : ℕ) (ys : List ℕ) → Lacks p xs → p y ≡ true → before_first p (xs ++ y ∷ ys) ≡ xs
before p [] y ys h here = ap (λ (b : Bool). take (cond (not b) (1 + prefix_len (λ x. not (p x)) ys) 0) (y ∷ ys)) here
before p (x ∷ xs) y ys h here =
    ap (λ (b : Bool). take (cond (not b) (1 + prefix_len (λ z. not (p z)) (xs ++ y ∷ ys)) 0) (x ∷ xs ++ y ∷ ys)) h.0
    ∙ ap (λ (n : ℕ). take n (x ∷ xs ++ y ∷ ys)) more
    ∙ ap (λ (l : List ℕ). x ∷ l) (before p xs y ys h.1 here)
  where
    more : 1 + prefix_len (λ z. not (p z)) (xs ++ y ∷ ys) ≡ suc (prefix_len (λ z. not (p z)) (xs ++ y ∷ ys))
    more = omega arith

any_here : (p : ℕ → Bool) (xs : List ℕ) (y : ℕ) (ys : List ℕ) → p y ≡ true → list_any p (xs ++ y ∷ ys) ≡ true
any_here p [] y ys here = ap (λ (b : Bool). b || list_any p ys) here
any_here p (x ∷ xs) y ys here = go (p x) (any_here p xs y ys here)
  where
    go : (b : Bool) → list_any p (xs ++ y ∷ ys) ≡ true → (b || list_any p (xs ++ y ∷ ys)) ≡ true
    go true h = refl
    go false h = h

any_nowhere : (p : ℕ → Bool) (xs : List ℕ) → Lacks p xs → list_any p xs ≡ false
any_nowhere p [] h = refl
any_nowhere p (x ∷ xs) h = ap (λ (b : Bool). b || list_any p xs) h.0 ∙ any_nowhere p xs h.1

turned : (front last : List ℕ) → reverse (front ++ 47 ∷ last) ≡ reverse last ++ 47 ∷ reverse front
turned front last =
    reverse-append front (47 ∷ last)
    ∙ ap (λ (l : List ℕ). l ++ reverse front) (reverse-append (47 ∷ []) last)
    ∙ append_assoc (reverse last) (47 ∷ []) (reverse front)

last_is : (front last : List ℕ) → Lacks is_slash last → after_last_slash (front ++ 47 ∷ last) ≡ last
last_is front last h =
    ap (λ (l : List ℕ). reverse (before_first is_slash l)) (turned front last)
    ∙ ap reverse (before is_slash (reverse last) 47 (reverse front) (lacks_back is_slash last h) refl)
    ∙ reverse-reverse last

-- the text is cut at its last '/'
pub short_last : (name text last : List ℕ) (i j : ℕ) → RFindsChar 47 text (Some (i, j)) → last ≡ drop j text → bytes_eq name (before_first is_at_sign last) ≡ is_short_for name text
short_last name text last i j found is =
    let split : text ≡ take i text ++ 47 ∷ last = sym (take-append-drop i text) ∙ ap (λ (l : List ℕ). take i text ++ l) (drop_at_char 47 text i j found.1 (omega arith) ∙ ap (λ (l : List ℕ). 47 ∷ l) (sym is)) in
    let none : Lacks is_slash last = subst (Lacks is_slash) (sym is) (lacks 47 (drop j text) (λ k lt. NoCharPasses-char 47 (drop j text) k found.0 (omega arith) lt)) in
    sym (ap (is_short_for name) split
    ∙ ap (λ (b : Bool). b && bytes_eq name (before_first is_at_sign (after_last_slash (take i text ++ 47 ∷ last)))) (any_here is_slash (take i text) 47 last refl)
    ∙ ap (λ (l : List ℕ). bytes_eq name (before_first is_at_sign l)) (last_is (take i text) last none))

pub short_none : (name text : List ℕ) → RFindsChar 47 text None → false ≡ is_short_for name text
short_none name text h = sym (ap (λ (b : Bool). b && bytes_eq name (before_first is_at_sign (after_last_slash text))) (any_nowhere is_slash text (lacks 47 text (λ k lt. NoCharPasses-char 47 text k h (omega arith) lt))))
