-- A map or set is copied entry by entry, with new numbers.
use Rattle.wac_graph.proofs.Common.{◌≡◌, ◌∙◌, ℕ, List, [], ◌∷◌, ◌++◌, refl, sym, ap, subst, map, Bool, false, append_assoc, append-nil, ◌||◌, string_bytes, String, Global, list_any, AllByRecursion, bytes_eq, by_name, IsFresh}
use Rattle.std.specs.List.{IsDistinct}
use Rattle.std.specs.Bool.{one_answer}
use Rattle.std.specs.String.{string_eq}
use Rattle.std.specs.Map.{keys_of}
use Rattle.std.proofs.lemmas.Slice.Eq.{bytes_eq-Decides}
use Rattle.wac_graph_types.proofs.Maps.{fresh_name}

bytes_eq-sym : (a b : List ℕ) → bytes_eq a b ≡ bytes_eq b a
bytes_eq-sym a b = one_answer (bytes_eq a b) (bytes_eq b a) (bytes_eq-Decides a b) (let d = bytes_eq-Decides b a in (λ h. sym (d.0 h), λ e. d.1 (sym e)))

-- the names of a list by name
abbrev pub names : {V : Type 0} → List (List ℕ × V) → List (List ℕ)
names es = map (λ e. e.0) es

-- a name that is apart from those before it is none of them
apart_new : (ys left : List (List ℕ)) (x : List ℕ) → IsDistinct bytes_eq (ys ++ x ∷ left) → list_any (bytes_eq x) ys ≡ false
unfolding IsDistinct
apart_new [] left x h = refl
apart_new (y ∷ ys) left x h =
    let here : bytes_eq x y ≡ false = bytes_eq-sym x y ∙ seam ys h.0 in
    let rest : list_any (bytes_eq x) ys ≡ false = apart_new ys left x h.1 in
    ap (λ (b : Bool). b || list_any (bytes_eq x) ys) here ∙ rest
  where
    seam : (zs : List (List ℕ)) → AllByRecursion (λ z. bytes_eq y z ≡ false) (zs ++ x ∷ left) → bytes_eq y x ≡ false
    seam [] all = all.0
    seam (z ∷ zs) all = seam zs all.1

distinct_names : {V : Type 0} (es : List (String Global × V)) → IsDistinct string_eq (keys_of es) → IsDistinct bytes_eq (names (by_name es))
unfolding IsDistinct
distinct_names [] h = h
distinct_names {V} (e ∷ es) h = (each es h.0, distinct_names es h.1)
  where
    each : (fs : List (String Global × V)) → AllByRecursion (λ k. string_eq e.0 k ≡ false) (keys_of fs) → AllByRecursion (λ k. bytes_eq (string_bytes e.0) k ≡ false) (names (by_name fs))
    each [] all = all
    each (f ∷ fs) all = (all.0, each fs all.1)

map_append : {X Y : Type 0} (f : X → Y) (xs ys : List X) → map f (xs ++ ys) ≡ map f xs ++ map f ys
map_append f [] ys = refl
map_append {X} {Y} f (x ∷ xs) ys = ap (λ (l : List Y). f x ∷ l) (map_append f xs ys)

-- `done` has copies of the first of `from`, and `rest` is what is left of it: g shows an entry, f moves it, and what is
-- left may be moved
pub record Copying {V Y : Type 0} (g : List ℕ × V → Y) (f : Y → Y) (P : Y → Type 0) (from done rest : List (List ℕ × V)) : Type 0 where
  pub so_far : map g done ++ map f (map g rest) ≡ map f (map g from)
  pub fits : AllByRecursion P (map g rest)
  pub apart : IsDistinct bytes_eq (names done ++ names rest)

module _ {V Y : Type 0} (g : List ℕ × V → Y) (f : Y → Y) (P : Y → Type 0) where
  pub copying_start : (es : List (String Global × V)) → AllByRecursion P (map g (by_name es)) → IsDistinct string_eq (keys_of es) → Copying g f P (by_name es) [] (by_name es)
  copying_start es fits distinct = record { so_far = refl; fits = fits; apart = distinct_names es distinct }

  pub copying_fits : (from done rest left : List (List ℕ × V)) (e : List ℕ × V) → rest ≡ e ∷ left → Copying g f P from done rest → P (g e)
  copying_fits from done rest left e is c = (subst (λ (l : List (List ℕ × V)). AllByRecursion P (map g l)) is c.fits).0

  pub copying_new : (from done rest left : List (List ℕ × V)) (e : List ℕ × V) → rest ≡ e ∷ left → Copying g f P from done rest → IsFresh e.0 done
  copying_new from done rest left e is c = fresh_name e.0 done (apart_new (names done) (names left) e.0 (subst (λ (l : List (List ℕ × V)). IsDistinct bytes_eq (names done ++ names l)) is c.apart))

  pub copying_step : (from done rest left next : List (List ℕ × V)) (e d : List ℕ × V) → rest ≡ e ∷ left → Copying g f P from done rest
      → next ≡ done ++ d ∷ [] → d.0 ≡ e.0 → g d ≡ f (g e) → Copying g f P from next left
  copying_step from done rest left next e d is c new name kind = record {
    so_far =
        let front : map g next ≡ map g done ++ g d ∷ [] = ap (map g) new ∙ map_append g done (d ∷ []) in
        let assoc : (map g done ++ g d ∷ []) ++ map f (map g left) ≡ map g done ++ (g d ∷ map f (map g left)) = simp append_assoc in
        ap (λ (l : List Y). l ++ map f (map g left)) front ∙ assoc
        ∙ ap (λ (x : Y). map g done ++ (x ∷ map f (map g left))) kind
        ∙ ap (λ (l : List (List ℕ × V)). map g done ++ map f (map g l)) (sym is)
        ∙ c.so_far;
    fits = (subst (λ (l : List (List ℕ × V)). AllByRecursion P (map g l)) is c.fits).1;
    apart =
        let before : IsDistinct bytes_eq (names done ++ e.0 ∷ names left) = subst (λ (l : List (List ℕ × V)). IsDistinct bytes_eq (names done ++ names l)) is c.apart in
        let assoc : (names done ++ d.0 ∷ []) ++ names left ≡ names done ++ (d.0 ∷ names left) = simp append_assoc in
        let all : names next ++ names left ≡ names done ++ e.0 ∷ names left
        = ap (λ (l : List (List ℕ × V)). names l ++ names left) new ∙ ap (λ (l : List (List ℕ)). l ++ names left) (map_append (λ (x : List ℕ × V). x.0) done (d ∷ [])) ∙ assoc ∙ ap (λ (x : List ℕ). names done ++ x ∷ names left) name in
        subst (IsDistinct bytes_eq) (sym all) before;
  }

  pub copying_end : (from done rest : List (List ℕ × V)) → rest ≡ [] → Copying g f P from done rest → map g done ≡ map f (map g from)
  copying_end from done rest is c =
      let nil : map g done ++ [] ≡ map g done = simp append-nil in
      sym nil ∙ ap (λ (l : List (List ℕ × V)). map g done ++ map f (map g l)) (sym is) ∙ c.so_far

-- the texts of a set
abbrev pub texts : List (String Global) → List (List ℕ)
texts ks = map string_bytes ks

distinct_texts : (ks : List (String Global)) → IsDistinct string_eq ks → IsDistinct bytes_eq (texts ks)
unfolding IsDistinct
distinct_texts [] h = h
distinct_texts (k ∷ ks) h = (each ks h.0, distinct_texts ks h.1)
  where
    each : (ls : List (String Global)) → AllByRecursion (λ l. string_eq k l ≡ false) ls → AllByRecursion (λ l. bytes_eq (string_bytes k) l ≡ false) (texts ls)
    each [] all = all
    each (l ∷ ls) all = (all.0, each ls all.1)

-- `done` has the first of `from`, and `rest` is what is left of it
pub record CopyingTexts (from done rest : List (String Global)) : Type 0 where
  pub so_far : texts done ++ texts rest ≡ texts from
  pub apart : IsDistinct bytes_eq (texts from)

pub texts_start : (from : List (String Global)) → IsDistinct string_eq from → CopyingTexts from [] from
texts_start from distinct = record { so_far = refl; apart = distinct_texts from distinct }

pub texts_new : (from done rest left : List (String Global)) (k : String Global) → rest ≡ k ∷ left → CopyingTexts from done rest → list_any (bytes_eq (string_bytes k)) (texts done) ≡ false
texts_new from done rest left k is c =
    let all : texts done ++ string_bytes k ∷ texts left ≡ texts from = ap (λ (l : List (String Global)). texts done ++ texts l) (sym is) ∙ c.so_far in
    apart_new (texts done) (texts left) (string_bytes k) (subst (IsDistinct bytes_eq) (sym all) c.apart)

pub texts_step : (from done rest left next : List (String Global)) (k : String Global) → rest ≡ k ∷ left → CopyingTexts from done rest → texts next ≡ texts done ++ string_bytes k ∷ [] → CopyingTexts from next left
texts_step from done rest left next k is c new = record {
  so_far =
      let assoc : (texts done ++ string_bytes k ∷ []) ++ texts left ≡ texts done ++ (string_bytes k ∷ texts left) = simp append_assoc in
      ap (λ (l : List (List ℕ)). l ++ texts left) new ∙ assoc ∙ ap (λ (l : List (String Global)). texts done ++ texts l) (sym is) ∙ c.so_far;
  apart = c.apart;
}

pub texts_end : (from done rest : List (String Global)) → rest ≡ [] → CopyingTexts from done rest → texts done ≡ texts from
texts_end from done rest is c =
    let nil : texts done ++ [] ≡ texts done = simp append-nil in
    sym nil ∙ ap (λ (l : List (String Global)). texts done ++ texts l) (sym is) ∙ c.so_far
