-- Exports of an instance, in order.
use Rattle.wac_resolution_statements.proofs.Common.{◌≡◌, ◌==◌, length, suc, arith, ◌∙◌, ℕ, List, [], ◌∷◌, ◌++◌, Option, Some, None, Bool, true, false, cond, refl, sym, ap, subst, map, is_none, append-nil, append_assoc, slice_get, option_map, option_and_then, unwrap_or, IsSome, string_bytes, String, Global, AllByRecursion, bytes_eq, ItemKind, InterfaceId, Meaning, of_kind, by_name, instance_exports, interface_exports, Named, look_up, exports_of, items_mean, nothing, Parts, export_kind, means, entry_means, Numbering, names_of, unexported, IsInstance}
use Rattle.std.specs.List.{IsDistinct}
use Rattle.std.specs.Bool.{one_answer}
use Rattle.std.specs.Map.{keys_of}
use Rattle.std.specs.String.{string_eq}
use Rattle.std.proofs.lemmas.Bool.Decides.{Decides-eqb}
use Rattle.std.proofs.lemmas.Slice.Eq.{bytes_eq-Decides}
use Rattle.wac_graph_types.specs.declared.kind.ItemKind.TheVariants as kinds
use Rattle.wac_graph.specs.Node.{Node as GraphNode}
use Rattle.wac_resolution_statements.specs.Spreads.{AreUnexported, EachExported, meaning_exported, exported_item}

-- ---- names that aren't exported yet

-- the names so far, then those among the rest, are those among all
abbrev pub Gathering : Named ℕ → Named ItemKind → Named ItemKind → List (List ℕ) → Type 0
Gathering exports all rest names = (f : ℕ → Meaning) → names ++ names_of (unexported exports (items_mean f rest)) ≡ names_of (unexported exports (items_mean f all))

next_open : (exports : Named ℕ) (f : ℕ → Meaning) (x : List ℕ × ItemKind) (left : Named ItemKind) (b : Bool) → is_none (look_up x.0 exports) ≡ b
    → unexported exports (items_mean f (x ∷ left)) ≡ cond b ((x.0, of_kind f x.1) ∷ unexported exports (items_mean f left)) (unexported exports (items_mean f left))
next_open exports f x left b is = ap (λ (c : Bool). cond c ((x.0, of_kind f x.1) ∷ unexported exports (items_mean f left)) (unexported exports (items_mean f left))) is

pub gather_none : (exports : Named ℕ) (all rest left : Named ItemKind) (names : List (List ℕ)) (x : List ℕ × ItemKind) → rest ≡ x ∷ left → is_none (look_up x.0 exports) ≡ false → Gathering exports all rest names → Gathering exports all left names
gather_none exports all rest left names x is here h f =
    ap (λ (l : Named Meaning). names ++ names_of l) (sym (ap (λ (l : Named ItemKind). unexported exports (items_mean f l)) is ∙ next_open exports f x left false here)) ∙ h f

pub gather_one : (exports : Named ℕ) (all rest left : Named ItemKind) (names next : List (List ℕ)) (x : List ℕ × ItemKind) → rest ≡ x ∷ left → is_none (look_up x.0 exports) ≡ true → next ≡ names ++ x.0 ∷ [] → Gathering exports all rest names
    → Gathering exports all left next
gather_one exports all rest left names next x is here more h f =
    let later : List (List ℕ) = names_of (unexported exports (items_mean f left)) in
    let assoc : (names ++ x.0 ∷ []) ++ later ≡ names ++ (x.0 ∷ later) = append_assoc names (x.0 ∷ []) later in
    ap (λ (l : List (List ℕ)). l ++ later) more ∙ assoc
    ∙ ap (λ (l : Named Meaning). names ++ names_of l) (sym (ap (λ (l : Named ItemKind). unexported exports (items_mean f l)) is ∙ next_open exports f x left true here)) ∙ h f

pub gather_start : (exports : Named ℕ) (all rest : Named ItemKind) (names : List (List ℕ)) → names ≡ [] → rest ≡ all → Gathering exports all rest names
gather_start exports all rest names none same f = ap (λ (l : List (List ℕ)). l ++ names_of (unexported exports (items_mean f rest))) none ∙ ap (λ (l : Named ItemKind). names_of (unexported exports (items_mean f l))) same

-- each entry of a map is found under its name
bytes_same : (a : List ℕ) → bytes_eq a a ≡ true
bytes_same a = (bytes_eq-Decides a a).1 refl

bytes_turned : (a b : List ℕ) → bytes_eq a b ≡ bytes_eq b a
bytes_turned a b = one_answer (bytes_eq a b) (bytes_eq b a) (bytes_eq-Decides a b) (let d = bytes_eq-Decides b a in (λ h. sym (d.0 h), λ e. d.1 (sym e)))

pub each_found : {V : Type 0} (es : List (String Global × V)) → IsDistinct string_eq (keys_of es) → AllByRecursion (λ x. look_up x.0 (by_name es) ≡ Some x.1) (by_name es)
unfolding IsDistinct
each_found [] h = tt
each_found {V} (e ∷ es) h = (ap (λ (b : Bool). cond b (Some e.1) (look_up (string_bytes e.0) (by_name es))) (bytes_same (string_bytes e.0)), later es h.0 (each_found es h.1))
  where
    later : (fs : List (String Global × V)) → AllByRecursion (λ k. string_eq e.0 k ≡ false) (keys_of fs) → AllByRecursion (λ x. look_up x.0 (by_name es) ≡ Some x.1) (by_name fs) → AllByRecursion (λ x. look_up x.0 (by_name (e ∷ es)) ≡ Some x.1) (by_name fs)
    later [] apart all = tt
    later (f ∷ fs) apart all = (
      ap (λ (b : Bool). cond b (Some e.1) (look_up (string_bytes f.0) (by_name es))) (bytes_turned (string_bytes f.0) (string_bytes e.0) ∙ apart.0) ∙ all.0,
      later fs apart.1 all.1,
    )

pub gathered : (exports : Named ℕ) (es : List (String Global × ItemKind)) (rest : Named ItemKind) (names : List (List ℕ)) → IsDistinct string_eq (keys_of es) → rest ≡ [] → Gathering exports (by_name es) rest names → AreUnexported exports (by_name es) names
gathered exports es rest names distinct none h = record {
  are = λ f.
      let ended : names ++ [] ≡ names = simp append-nil in
      sym ended ∙ ap (λ (l : Named ItemKind). names ++ names_of (unexported exports (items_mean f l))) (sym none) ∙ h f;
  found = each_found es distinct;
}

pub unexported_here : (exports : Named ℕ) (ks all : Named ItemKind) (names : List (List ℕ)) → all ≡ ks → AreUnexported exports all names → AreUnexported exports ks names
unexported_here exports ks all names same h = subst (λ (l : Named ItemKind). AreUnexported exports l names) same h

pub none_unexported : (exports : Named ℕ) (ks : Named ItemKind) → [] ≡ ks → AreUnexported exports ks []
none_unexported exports ks same = subst (λ (l : Named ItemKind). AreUnexported exports l []) same (record { are = λ f. refl; found = tt })

-- whether names are left
pub none_left : {X : Type 0} (xs : List X) (n : ℕ) → n ≡ length xs → (n == 0) ≡ true → xs ≡ []
none_left [] n long h = refl
none_left (x ∷ xs) n long h =
    let none : n ≡ 0 = (Decides-eqb n 0).0 h in
    let more : n ≡ suc (length xs) = long in
    absurd (omega (arith, none, more))

pub some_left : {X : Type 0} (xs : List X) (n : ℕ) → n ≡ length xs → (n == 0) ≡ false → xs ≡ [] → ⊥
some_left {X} xs n long h none =
    let here : (n == 0) ≡ true = (Decides-eqb n 0).1 (long ∙ ap (λ (l : List X). length l) none) in
    cc (sym h ∙ here)

-- ---- what an instance exports

export_is : (g : Parts) (node : ℕ) (i : InterfaceId) (name : List ℕ) → IsInstance g node i → export_kind g node name ≡ look_up name (interface_exports g.types i.0)
export_is g node i name h = go (slice_get g.nodes node) h.kind
  where
    go : (o : Option GraphNode) → option_map (λ (x : GraphNode). x.kind) o ≡ Some (kinds.Instance i) → option_and_then (λ (n : GraphNode). look_up name (instance_exports g.types n.kind)) o ≡ look_up name (interface_exports g.types i.0)
    go None is = absurd (cc is)
    go (Some n) is = (let same : n.kind ≡ kinds.Instance i = cc is in ap (λ (k : ItemKind). look_up name (instance_exports g.types k)) same)

-- what holds of the names of all holds of those that aren't exported yet
each_open : (P : List ℕ → Type 0) (exports : Named ℕ) (f : ℕ → Meaning) (ks : Named ItemKind) → AllByRecursion (λ x. P x.0) ks → AllByRecursion P (names_of (unexported exports (items_mean f ks)))
each_open P exports f [] h = tt
each_open P exports f (k ∷ ks) h = go (is_none (look_up k.0 exports)) (each_open P exports f ks h.1)
  where
    go : (b : Bool) → AllByRecursion P (names_of (unexported exports (items_mean f ks))) → AllByRecursion P (names_of (cond b ((k.0, of_kind f k.1) ∷ unexported exports (items_mean f ks)) (unexported exports (items_mean f ks))))
    go true later = (h.0, later)
    go false later = later

found_some : (g : Parts) (node : ℕ) (i : InterfaceId) (all : Named ItemKind) → IsInstance g node i → all ≡ interface_exports g.types i.0 → (xs : Named ItemKind) → AllByRecursion (λ x. look_up x.0 all ≡ Some x.1) xs → AllByRecursion (λ x. IsSome (export_kind g node x.0)) xs
found_some g node i all h same [] f = tt
found_some g node i all h same (x ∷ xs) f = (
  subst (λ (o : Option ItemKind). IsSome o) (sym (export_is g node i x.0 h ∙ ap (look_up x.0) (sym same) ∙ f.0)) refl,
  found_some g node i all h same xs f.1,
)

-- the names are of exports of the instance
pub open_exported : (g : Parts) (node : ℕ) (i : InterfaceId) (names : List (List ℕ)) → IsInstance g node i → AreUnexported g.exports (interface_exports g.types i.0) names → EachExported g node names
open_exported g node i names h u =
    subst (λ (l : List (List ℕ)). EachExported g node l) (sym (u.are (λ _. nothing)))
    (each_open (λ name. IsSome (export_kind g node name)) g.exports (λ _. nothing) (interface_exports g.types i.0) (found_some g node i (interface_exports g.types i.0) h refl (interface_exports g.types i.0) u.found))

abbrev item_by : (List ℕ → Meaning) → List ℕ → List ℕ × Meaning
item_by P name = (name, P name)

with_meanings : (P : List ℕ → Meaning) (exports : Named ℕ) (xs : Named Meaning) → AllByRecursion (λ x. P x.0 ≡ x.1) xs → map (item_by P) (names_of (unexported exports xs)) ≡ unexported exports xs
with_meanings P exports [] h = refl
with_meanings P exports (x ∷ xs) h = go (is_none (look_up x.0 exports)) (with_meanings P exports xs h.1)
  where
    go : (b : Bool) → map (item_by P) (names_of (unexported exports xs)) ≡ unexported exports xs → map (item_by P) (names_of (cond b (x ∷ unexported exports xs) (unexported exports xs))) ≡ cond b (x ∷ unexported exports xs) (unexported exports xs)
    go true later = (let here : P x.0 ≡ x.1 = h.0 in ap (λ (m : Meaning). (x.0, m) ∷ map (item_by P) (names_of (unexported exports xs))) here ∙ ap (λ (l : Named Meaning). (x.0, x.1) ∷ l) later)
    go false later = later

found_meant : (numbering : Numbering) (g : Parts) (node : ℕ) (i : InterfaceId) (all : Named ItemKind) → IsInstance g node i → all ≡ interface_exports g.types i.0 → (xs : Named ItemKind) → AllByRecursion (λ x. look_up x.0 all ≡ Some x.1) xs
    → AllByRecursion (λ x. meaning_exported numbering g node x.0 ≡ x.1) (items_mean (entry_means numbering g) xs)
found_meant numbering g node i all h same [] f = tt
found_meant numbering g node i all h same (x ∷ xs) f = (
  ap (λ (o : Option ItemKind). unwrap_or (option_map (means numbering g) o) nothing) (export_is g node i x.0 h ∙ ap (look_up x.0) (sym same) ∙ f.0),
  found_meant numbering g node i all h same xs f.1,
)

map_texts : {Y : Type 0} (f : List ℕ → Y) (ys : List (String Global)) → map (λ y. f (string_bytes y)) ys ≡ map f (map string_bytes ys)
map_texts f [] = refl
map_texts {Y} f (y ∷ ys) = ap (λ (l : List Y). f (string_bytes y) ∷ l) (map_texts f ys)

-- with what they denote they are the exports that aren't exported yet
pub open_items : (numbering : Numbering) (g : Parts) (node : ℕ) (i : InterfaceId) (ys : List (String Global)) → IsInstance g node i → AreUnexported g.exports (interface_exports g.types i.0) (map string_bytes ys)
    → map (exported_item numbering g node) ys ≡ unexported g.exports (exports_of (entry_means numbering g i.0))
open_items numbering g node i ys h u =
    let all : Named Meaning = items_mean (entry_means numbering g) (interface_exports g.types i.0) in
    map_texts (item_by (meaning_exported numbering g node)) ys
    ∙ ap (map (item_by (meaning_exported numbering g node))) (u.are (entry_means numbering g))
    ∙ with_meanings (meaning_exported numbering g node) g.exports all (found_meant numbering g node i (interface_exports g.types i.0) h refl (interface_exports g.types i.0) u.found)
    ∙ ap (unexported g.exports) (sym (h.exports numbering))
