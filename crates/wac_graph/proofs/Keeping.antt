-- Each building call keeps what is read.
use Rattle.wac_graph.proofs.Common.{◌≡◌, ◌∙◌, ℕ, Option, Some, None, List, [], ◌∷◌, ◌++◌, Bool, true, false, refl, sym, ap, subst, append-nil, arith, slice_get, slice_set, option_and_then, nat_eq, nat_tests, ItemKind, Entry, by_name, as_interface, as_world, world_imports, instance_exports, Named, look_up, Names, KeepsNames, names_kept}
use Rattle.wac_graph_types.specs.declared.kind.ItemKind.TheVariants as kinds
use Rattle.wac_graph_types.proofs.Growing.{names_appended, names_unchanged as names_same}
use Rattle.wac_graph.specs.Package.{HeldPackage}
use Rattle.wac_graph.specs.Node.{Node}
use Rattle.wac_graph.specs.Graph.{Parts, with_entry}
use Rattle.wac_graph.specs.Kept.{Keeps}
use Rattle.wac_graph.proofs.Lists.{get_kept, set_here, set_other, found_more}

pub keeps_self : (g : Parts) → Keeps g g
keeps_self g = record { names = λ k h. h; packages = λ p h is. is; imported = λ name n is. is; exported = λ name n is. is; exports = λ node name k is. is; imports = λ p name k is. is }

pub keeps_on : (a b c : Parts) → Keeps a b → Keeps b c → Keeps a c
keeps_on a b c p q = record {
  names = λ k h. q.names k (p.names k h);
  packages = λ i h is. q.packages i h (p.packages i h is);
  imported = λ name n is. q.imported name n (p.imported name n is);
  exported = λ name n is. q.exported name n (p.exported name n is);
  exports = λ node name k is. q.exports node name k (p.exports node name k is);
  imports = λ i name k is. q.imports i name k (p.imports i name k is);
}

-- ---- what a table has stays as it grows

-- a list that is read of an entry, and is empty where there is none
read_kept : (read : Option Entry → Named ItemKind) → read None ≡ [] → (es fs : List Entry) (n : ℕ) (name : List ℕ) (k : ItemKind)
    → look_up name (read (slice_get es n)) ≡ Some k → look_up name (read (slice_get (es ++ fs) n)) ≡ Some k
read_kept read none es fs n name k h = go (slice_get es n) refl h
  where
    go : (o : Option Entry) → slice_get es n ≡ o → look_up name (read o) ≡ Some k → look_up name (read (slice_get (es ++ fs) n)) ≡ Some k
    go None is found = (let nothing : None ≡ Some k = ap (look_up name) (sym none) ∙ found in absurd (cc))
    go (Some e) is found = ap (λ (o : Option Entry). look_up name (read o)) (get_kept es fs n e is) ∙ found

interface_read : Option Entry → Named ItemKind
interface_read o = elim (option_and_then as_interface o) [ None ↦ [] | Some i ↦ by_name i.exports.entries ]

world_read : Option Entry → Named ItemKind
world_read o = elim (option_and_then as_world o) [ None ↦ [] | Some w ↦ by_name w.imports.entries ]

pub instance_kept : (es fs : List Entry) (m k : ItemKind) (name : List ℕ) → look_up name (instance_exports es m) ≡ Some k → look_up name (instance_exports (es ++ fs) m) ≡ Some k
unfolding interface_read
instance_kept es fs (kinds.Ty t) k name h = h
instance_kept es fs (kinds.Func id) k name h = h
instance_kept es fs (kinds.Instance id) k name h = read_kept interface_read refl es fs id.0 name k h
instance_kept es fs (kinds.Component id) k name h = h
instance_kept es fs (kinds.Module id) k name h = h
instance_kept es fs (kinds.Value v) k name h = h

world_kept : (es fs : List Entry) (n : ℕ) (k : ItemKind) (name : List ℕ) → look_up name (world_imports es n) ≡ Some k → look_up name (world_imports (es ++ fs) n) ≡ Some k
unfolding world_read
world_kept es fs n k name h = read_kept world_read refl es fs n name k h

-- ---- what nodes and packages export and import

export_at : (es : List Entry) (o : Option Node) (name : List ℕ) → Option ItemKind
export_at es o name = option_and_then (λ (n : Node). look_up name (instance_exports es n.kind)) o

exports_kept : (es fs : List Entry) (o p : Option Node) (name : List ℕ) (k : ItemKind) → ((n : Node) → o ≡ Some n → (m : Node) × (p ≡ Some m) × (m.kind ≡ n.kind))
    → export_at es o name ≡ Some k → export_at (es ++ fs) p name ≡ Some k
unfolding export_at
exports_kept es fs None p name k there h = absurd (cc)
exports_kept es fs (Some n) p name k there h =
    let m = there n refl in
    ap (λ (x : Option Node). export_at (es ++ fs) x name) m.1
    ∙ ap (λ (x : ItemKind). look_up name (instance_exports (es ++ fs) x)) m.2
    ∙ instance_kept es fs n.kind k name h

import_at : (es : List Entry) (o : Option HeldPackage) (name : List ℕ) → Option ItemKind
import_at es o name = option_and_then (λ (h : HeldPackage). look_up name (world_imports es h.world.0)) o

imports_kept : (es fs : List Entry) (o p : Option HeldPackage) (name : List ℕ) (k : ItemKind) → ((h : HeldPackage) → o ≡ Some h → p ≡ Some h)
    → import_at es o name ≡ Some k → import_at (es ++ fs) p name ≡ Some k
unfolding import_at
imports_kept es fs None p name k there h = absurd (cc)
imports_kept es fs (Some q) p name k there h =
    ap (λ (x : Option HeldPackage). import_at (es ++ fs) x name) (there q refl) ∙ world_kept es fs q.world.0 k name h

-- ---- a graph that has more

-- the new list begins with the old one
abbrev pub More : {X : Type 0} → List X → List X → Type 0
More {X} old new = (more : List X) × (new ≡ old ++ more)

pub no_more : {X : Type 0} (xs : List X) → More xs xs
no_more xs = ([], simp append-nil)

pub one_more : {X : Type 0} (xs : List X) (x : X) → More xs (xs ++ x ∷ [])
one_more xs x = (x ∷ [], refl)

-- nodes stay where they are and keep their kinds
abbrev pub Stay : List Node → List Node → Type 0
Stay old new = (i : ℕ) (n : Node) → slice_get old i ≡ Some n → (m : Node) × (slice_get new i ≡ Some m) × (m.kind ≡ n.kind)

pub all_stay : (ns : List Node) → Stay ns ns
all_stay ns i n is = (n, is, refl)

pub stay_more : (ns : List Node) (n : Node) → Stay ns (ns ++ n ∷ [])
stay_more ns n i m is = (m, get_kept ns (n ∷ []) i m is, refl)

pub stay_set : (ns : List Node) (k : ℕ) (n m : Node) → slice_get ns k ≡ Some n → m.kind ≡ n.kind → Stay ns (slice_set ns k m)
stay_set ns k n m at kind i x is = go (nat_eq i k) (eq_true i k) (eq_false i k)
  where
    eq_true : (a b : ℕ) → nat_eq a b ≡ true → a ≡ b
    eq_true a b h = grind (arith, nat_tests)

    eq_false : (a b : ℕ) → nat_eq a b ≡ false → a ≡ b → ⊥
    eq_false a b h e = grind (arith, nat_tests)

    go : (b : Bool) → (b ≡ true → i ≡ k) → (b ≡ false → i ≡ k → ⊥) → (y : Node) × (slice_get (slice_set ns k m) i ≡ Some y) × (y.kind ≡ x.kind)
    go true same other =
        let e : i ≡ k = same refl in
        let one : n ≡ x = (let h : slice_get ns k ≡ Some x = subst (λ (j : ℕ). slice_get ns j ≡ Some x) e is in cc) in
        (m, subst (λ (j : ℕ). slice_get (slice_set ns k m) j ≡ Some m) (sym e) (set_here ns k n m at), kind ∙ ap (λ (y : Node). y.kind) one)
    go false same other = (x, set_other ns k i m (other refl) ∙ is, refl)

pub record Extends (old new : Parts) : Type 0 where
  pub types : More old.types new.types
  pub packages : More old.packages new.packages
  pub nodes : Stay old.nodes new.nodes
  pub imports : More old.imports new.imports
  pub exports : More old.exports new.exports

pub extends_keeps : (old new : Parts) → Extends old new → Keeps old new
unfolding export_at import_at
extends_keeps old new h =
    let packages : (p : ℕ) (q : HeldPackage) → slice_get old.packages p ≡ Some q → slice_get new.packages p ≡ Some q
    = λ p q is. subst (λ (l : List HeldPackage). slice_get l p ≡ Some q) (sym h.packages.1) (get_kept old.packages h.packages.0 p q is) in
    record {
      names = λ k is. subst (λ (l : List Entry). Names l k) (sym h.types.1) (names_kept old.types h.types.0 k is);
      packages = packages;
      imported = λ name n is. subst (λ (l : Named ℕ). look_up name l ≡ Some n) (sym h.imports.1) (found_more name old.imports h.imports.0 n is);
      exported = λ name n is. subst (λ (l : Named ℕ). look_up name l ≡ Some n) (sym h.exports.1) (found_more name old.exports h.exports.0 n is);
      exports = λ node name k is. subst (λ (l : List Entry). export_at l (slice_get new.nodes node) name ≡ Some k) (sym h.types.1)
          (exports_kept old.types h.types.0 (slice_get old.nodes node) (slice_get new.nodes node) name k (h.nodes node) is);
      imports = λ p name k is. subst (λ (l : List Entry). import_at l (slice_get new.packages p) name ≡ Some k) (sym h.types.1)
          (imports_kept old.types h.types.0 (slice_get old.packages p) (slice_get new.packages p) name k (packages p) is);
    }

pub names_entry : (old new : Parts) (e : Entry) → new ≡ with_entry old e → KeepsNames old.types new.types
names_entry old new e is = names_appended old.types new.types (e ∷ []) (ap (λ (g : Parts). g.types) is)

pub names_unchanged : (old new : Parts) → new ≡ old → KeepsNames old.types new.types
names_unchanged old new is = names_same old.types new.types (ap (λ (g : Parts). g.types) is)
