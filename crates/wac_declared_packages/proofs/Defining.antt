-- Definitions by name, as the exports of a graph are gone over.
use Rattle.wac_declared_packages.proofs.Common.{◌≡◌, ◌∙◌, ◌<◌, ℕ, zero, suc, Option, Some, List, [], ◌∷◌, ◌++◌, length, refl, sym, ap, subst, map, Bool, false, true, arith, append_assoc, append-nil, ◌||◌, slice_get, ItemKind, Named, IsFresh}
use Rattle.std.specs.List.{list_any, AllByRecursion}
use Rattle.std.specs.Str.{bytes_eq}
use Rattle.std.proofs.lemmas.Slice.Eq.{bytes_eq-Decides}
use Rattle.wac_graph_types.proofs.Maps.{fresh_name}
use Rattle.wac_graph.specs.Graph.{Parts}
use Rattle.wac_graph.specs.Sound.{Differ, IsSound, NamesNodes, name_in}
use Rattle.wac_declared_packages.specs.Definitions.{AreExported, kind_at, kind_defined as shown, kind_exported as exported}

-- `done` has the exports that were gone over, and `rest` is what is left
pub record Defining (g : Parts) (done : Named ItemKind) (rest : Named ℕ) : Type 0 where
  pub written : Named ℕ
  pub all : written ++ rest ≡ g.exports
  pub kinds : map shown done ≡ map (exported g) written
  pub there : NamesNodes (length g.nodes) rest
  pub once : Differ name_in g.exports

map_append : {X Y : Type 0} (f : X → Y) (xs ys : List X) → map f (xs ++ ys) ≡ map f xs ++ map f ys
map_append f [] ys = refl
map_append {X} {Y} f (x ∷ xs) ys = ap (λ (l : List Y). f x ∷ l) (map_append f xs ys)

get_seam : {X : Type 0} (xs ys : List X) (x : X) → slice_get (xs ++ x ∷ ys) (length xs) ≡ Some x
get_seam [] ys x = refl
get_seam (y ∷ xs) ys x = get_seam xs ys x

differ_rest : (e : List ℕ × ℕ) (es : Named ℕ) → Differ name_in (e ∷ es) → Differ name_in es
differ_rest e es d = λ i j x y at_i at_j same. (let next : suc i ≡ suc j = d (suc i) (suc j) x y at_i at_j same in omega arith)

-- what comes before an export has other names
before_differ : (before left : Named ℕ) (e : List ℕ × ℕ) → Differ name_in (before ++ e ∷ left) → AllByRecursion (λ (b : List ℕ × ℕ). b.0 ≡ e.0 → ⊥) before
before_differ [] left e d = tt
before_differ (b ∷ before) left e d = (
  (λ same. let at : zero ≡ suc (length before) = d zero (suc (length before)) b e refl (get_seam before left e) same in absurd (omega arith)),
  before_differ before left e (differ_rest b (before ++ e ∷ left) d),
)

no_name : (name : List ℕ) (ns : List (List ℕ)) → AllByRecursion (λ (n : List ℕ). n ≡ name → ⊥) ns → list_any (bytes_eq name) ns ≡ false
no_name name [] h = refl
no_name name (n ∷ ns) h = go (no_name name ns h.1) (bytes_eq name n) refl
  where
    go : list_any (bytes_eq name) ns ≡ false → (b : Bool) → bytes_eq name n ≡ b → list_any (bytes_eq name) (n ∷ ns) ≡ false
    go later true is = absurd (h.0 (sym ((bytes_eq-Decides name n).0 is)))
    go later false is = ap (λ (b : Bool). b || list_any (bytes_eq name) ns) is ∙ later

names_differ : (name : List ℕ) (before : Named ℕ) → AllByRecursion (λ (b : List ℕ × ℕ). b.0 ≡ name → ⊥) before → AllByRecursion (λ (n : List ℕ). n ≡ name → ⊥) (map (λ e. e.0) before)
names_differ name [] h = tt
names_differ name (b ∷ before) h = (h.0, names_differ name before h.1)

abbrev named_first : List ℕ × Option ItemKind → List ℕ
named_first p = p.0

names_of_shown : (ds : Named ItemKind) → map named_first (map shown ds) ≡ map (λ d. d.0) ds
names_of_shown [] = refl
names_of_shown (d ∷ ds) = ap (λ (l : List (List ℕ)). d.0 ∷ l) (names_of_shown ds)

names_of_exported : (g : Parts) (es : Named ℕ) → map named_first (map (exported g) es) ≡ map (λ e. e.0) es
names_of_exported g [] = refl
names_of_exported g (e ∷ es) = ap (λ (l : List (List ℕ)). e.0 ∷ l) (names_of_exported g es)

-- the name of the next export is new among the definitions
pub defining_new : (g : Parts) (done : Named ItemKind) (rest left : Named ℕ) (e : List ℕ × ℕ) → rest ≡ e ∷ left → Defining g done rest → IsFresh e.0 done
defining_new g done rest left e is d =
    let all : d.written ++ e ∷ left ≡ g.exports = ap (λ (l : Named ℕ). d.written ++ l) (sym is) ∙ d.all in
    let apart = before_differ d.written left e (subst (Differ name_in) (sym all) d.once) in
    let names : map (λ (x : List ℕ × ItemKind). x.0) done ≡ map (λ (x : List ℕ × ℕ). x.0) d.written
    = sym (names_of_shown done) ∙ ap (map named_first) d.kinds ∙ names_of_exported g d.written in
    fresh_name e.0 done (ap (list_any (bytes_eq e.0)) names ∙ no_name e.0 (map (λ (x : List ℕ × ℕ). x.0) d.written) (names_differ e.0 d.written apart))

-- its node is there
pub defining_there : (g : Parts) (done : Named ItemKind) (rest left : Named ℕ) (e : List ℕ × ℕ) → rest ≡ e ∷ left → Defining g done rest → e.1 < length g.nodes
defining_there g done rest left e is d = (subst (NamesNodes (length g.nodes)) is d.there).0

pub defining_start : (g : Parts) → NamesNodes (length g.nodes) g.exports → IsSound g → Defining g [] g.exports
defining_start g there sound = record { written = []; all = refl; kinds = refl; there = there; once = sound.export_names }

pub defining_step : (g : Parts) (done next : Named ItemKind) (rest left : Named ℕ) (e : List ℕ × ℕ) (k : ItemKind) → rest ≡ e ∷ left → Defining g done rest
    → kind_at g e.1 ≡ Some k → next ≡ done ++ (e.0, k) ∷ [] → Defining g next left
defining_step g done next rest left e k is d kind new = record {
  written = d.written ++ e ∷ [];
  all =
      let assoc : (d.written ++ e ∷ []) ++ left ≡ d.written ++ (e ∷ left) = simp append_assoc in
      assoc ∙ ap (λ (l : Named ℕ). d.written ++ l) (sym is) ∙ d.all;
  kinds =
      ap (map shown) new ∙ map_append shown done ((e.0, k) ∷ [])
      ∙ ap (λ (l : List (List ℕ × Option ItemKind)). l ++ (e.0, Some k) ∷ []) d.kinds
      ∙ ap (λ (o : Option ItemKind). map (exported g) d.written ++ (e.0, o) ∷ []) (sym kind)
      ∙ sym (map_append (exported g) d.written (e ∷ []));
  there = (subst (NamesNodes (length g.nodes)) is d.there).1;
  once = d.once;
}

pub defining_end : (g : Parts) (done : Named ItemKind) (rest : Named ℕ) → rest ≡ [] → Defining g done rest → AreExported g done
defining_end g done rest is d =
    let nil : d.written ++ [] ≡ d.written = simp append-nil in
    let all : d.written ≡ g.exports = sym nil ∙ ap (λ (l : Named ℕ). d.written ++ l) (sym is) ∙ d.all in
    d.kinds ∙ ap (map (exported g)) all
