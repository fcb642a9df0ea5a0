-- What always holds of a graph still holds as it is built.
use Rattle.wac_graph.proofs.Common.{◌≡◌, ◌∙◌, ◌<◌, ◌≤◌, ◌+◌, ℕ, zero, suc, Option, Some, None, List, [], ◌∷◌, ◌++◌, length, append-nil, refl, sym, ap, subst, arith, true, false, inl, inr, slice_get, slice_set, IsSome, option_and_then, AllByRecursion, ItemKind, Entry, children, EachKind, KeepsMeanings, PackageParts, IsPackage, Named, IsFresh, cons_named, Names, IsTable, ItemsNamed, keeps_appended, package_world, package_instance, package_definitions, names_kept, table_more}
use Rattle.wac_graph.specs.Moved.{moved_items}
use Rattle.wac_graph.specs.Copied.{IsGrown, IsGrownBy}
use Rattle.wac_graph.proofs.Growing.{copy_named, copies_length}
use Rattle.std.proofs.Common.{length-append}
use Rattle.wac_graph_types.specs.declared.kind.ItemKind.TheVariants as kinds
use Rattle.wac_graph_types.proofs.Shapes.{cons_append}
use Rattle.wac_graph.specs.Package.{Key, HeldPackage, IsHeld, moved_package, package_keyed, same_key}
use Rattle.wac_graph.specs.Node.{Node, Form, import, definition, alias, instantiation, import_in, source_in, package_in, arguments_in, is_alias_of}
use Rattle.wac_graph.specs.Graph.{Parts, empty, plain_node, with_entry, with_import, with_definition, with_export, with_alias, with_instantiation, with_name, with_argument, changed, given_too, export_kind, import_kind, parameter_kind, arguments_of, alias_in}
use Rattle.wac_graph.specs.Kept.{Keeps}
use Rattle.wac_graph.specs.Sound.{EachAt, NamesNodes, IsPlaced, IsSoundNode, AliasedOnce, imports_from, IsSound}
use Rattle.wac_graph.proofs.Exported.{export_kind_names, exporting_there}
use Rattle.wac_graph.proofs.Keeping.{extends_keeps, no_more, one_more, all_stay, stay_more, stay_set}
use Rattle.wac_graph.proofs.Keys.{other_key, itself}
use Rattle.wac_graph.proofs.Lists.{get_more, get_set, set_length, each_more, each_set, differ_more, names_more, found_last, all_more, all_implies, none_at}

-- ---- imported nodes by name

imports_append : (m : ℕ) (ns : List Node) (n : Node) → imports_from m (ns ++ n ∷ []) ≡ imports_from m ns ++ cons_named (import_in n.form) (m + length ns) []
imports_append m [] n = (let at : m ≡ m + 0 = omega arith in ap (λ (k : ℕ). cons_named (import_in n.form) k []) at)
imports_append m (x ∷ ns) n =
    let at : suc m + length ns ≡ m + suc (length ns) = omega arith in
    ap (cons_named (import_in x.form) m) (imports_append (suc m) ns n)
    ∙ cons_append (import_in x.form) m (imports_from (suc m) ns) (cons_named (import_in n.form) (suc m + length ns) [])
    ∙ ap (λ (k : ℕ). cons_named (import_in x.form) m (imports_from (suc m) ns) ++ cons_named (import_in n.form) k []) at

-- a node that isn't an import
other_append : (ns : List Node) (n : Node) → import_in n.form ≡ None → imports_from 0 (ns ++ n ∷ []) ≡ imports_from 0 ns
other_append ns n none =
    let nil : imports_from 0 ns ++ [] ≡ imports_from 0 ns = simp append-nil in
    imports_append 0 ns n ∙ ap (λ (o : Option (List ℕ)). imports_from 0 ns ++ cons_named o (0 + length ns) []) none ∙ nil

import_append : (ns : List Node) (name : List ℕ) (k : ItemKind) → imports_from 0 (ns ++ plain_node (import name) k ∷ []) ≡ imports_from 0 ns ++ (name, length ns) ∷ []
import_append ns name k = (let at : 0 + length ns ≡ length ns = omega arith in imports_append 0 ns (plain_node (import name) k) ∙ ap (λ (n : ℕ). imports_from 0 ns ++ (name, n) ∷ []) at)

imports_set : (m : ℕ) (ns : List Node) (i : ℕ) (n y : Node) → slice_get ns i ≡ Some n → import_in y.form ≡ import_in n.form → imports_from m (slice_set ns i y) ≡ imports_from m ns
imports_set m [] i n y is same = absurd (cc)
imports_set m (x ∷ ns) zero n y is same =
    let here : n ≡ x = cc in
    ap (λ (o : Option (List ℕ)). cons_named o m (imports_from (suc m) ns)) (same ∙ ap (λ (z : Node). import_in z.form) here)
imports_set m (x ∷ ns) (suc i) n y is same = ap (cons_named (import_in x.form) m) (imports_set (suc m) ns i n y is same)

imports_within : (m : ℕ) (ns : List Node) → AllByRecursion (λ e. e.1 < m + length ns) (imports_from m ns)
imports_within m [] = tt
imports_within m (x ∷ ns) = go (import_in x.form) (all_implies (λ (e : List ℕ × ℕ). e.1 < suc m + length ns) (λ e. e.1 < m + suc (length ns)) (λ e w. omega arith) (imports_from (suc m) ns) (imports_within (suc m) ns))
  where
    go : (o : Option (List ℕ)) → AllByRecursion (λ e. e.1 < m + suc (length ns)) (imports_from (suc m) ns) → AllByRecursion (λ e. e.1 < m + suc (length ns)) (cons_named o m (imports_from (suc m) ns))
    go None h = h
    go (Some name) h = (omega arith, h)

-- each imported node exists
pub imports_there : (g : Parts) → IsSound g → NamesNodes (length g.nodes) g.imports
imports_there g h =
    subst (λ (l : Named ℕ). NamesNodes (length g.nodes) l) (sym h.imports)
    (all_implies (λ (e : List ℕ × ℕ). e.1 < 0 + length g.nodes) (λ e. e.1 < length g.nodes) (λ e w. omega arith) (imports_from 0 g.nodes) (imports_within 0 g.nodes))

-- ---- nodes and packages of a graph that has more

some_kept : {X : Type 0} (o p : Option X) → ((x : X) → o ≡ Some x → p ≡ Some x) → IsSome o → IsSome p
some_kept None p f h = absurd (cc)
some_kept {X} (Some x) p f h = subst (λ (q : Option X). IsSome q) (sym (f x refl)) h

placed_kept : (g h : Parts) → Keeps g h → (i : ℕ) (k : ItemKind) (f : Form) → IsPlaced g i k f → IsPlaced h i k f
placed_kept g h keeps i k (import name) p = tt
placed_kept g h keeps i k definition p = record { name = p.name; found = keeps.exported p.name i p.found }
placed_kept g h keeps i k (alias node export) p = record { earlier = p.earlier; kind = keeps.exports node export k p.kind }
placed_kept g h keeps i k (instantiation q arguments) p = record {
  of = p.of;
  held = keeps.packages q p.of p.held;
  kind = p.kind;
  imports = all_implies (λ (a : List ℕ × ℕ). IsSome (import_kind g q a.0)) (λ a. IsSome (import_kind h q a.0)) (λ a. some_kept (import_kind g q a.0) (import_kind h q a.0) (keeps.imports q a.0)) arguments p.imports;
  earlier = p.earlier;
  once = p.once;
}

node_kept : (g h : Parts) → Keeps g h → (i : ℕ) (n : Node) → IsSoundNode g i n → IsSoundNode h i n
node_kept g h keeps i n s = record { named = keeps.names n.kind s.named; placed = placed_kept g h keeps i n.kind n.form s.placed }

held_kept : (es new : List Entry) → IsGrown es new → (p : HeldPackage) → IsHeld es p → IsHeld new p
held_kept es new more p h = subst (λ (l : List Entry). IsHeld l p) (sym more.1) (record {
  of_range = omega (arith, h.of_range, length-append es more.0);
  of_world = names_kept es more.0 (kinds.Component p.world) h.of_world;
  of_instance = names_kept es more.0 (kinds.Instance p.instance) h.of_instance;
  of_definitions = all_implies (λ (d : List ℕ × ItemKind). Names es d.1) (λ d. Names (es ++ more.0) d.1) (λ d. names_kept es more.0 d.1) p.definitions h.of_definitions;
})

nodes_kept : (c d : ℕ) (names : Named ℕ) → c ≤ d → NamesNodes c names → NamesNodes d names
nodes_kept c d names le h = all_implies (λ (e : List ℕ × ℕ). e.1 < c) (λ e. e.1 < d) (λ e w. omega arith) names h

-- ---- the calls

pub sound_empty : IsSound empty
sound_empty = record {
  table = (tt, tt);
  packages = λ i p is. absurd (cc);
  keys = λ i j p q at_i at_j same. absurd (cc);
  nodes = λ i n is. absurd (cc);
  aliases = λ i j n m node export at_i at_j p q. absurd (cc);
  imports = refl;
  import_names = λ i j p q at_i at_j same. absurd (cc);
  exports = tt;
  export_names = λ i j p q at_i at_j same. absurd (cc);
}

-- a table that has grown
pub sound_grown : (g : Parts) (new : List Entry) → IsGrown g.types new → IsTable new → IsSound g → IsSound (record g { types = new })
sound_grown g new more table h =
    let keeps : Keeps g (record g { types = new }) = extends_keeps g (record g { types = new }) (record { types = more; packages = no_more g.packages; nodes = all_stay g.nodes; imports = no_more g.imports; exports = no_more g.exports }) in
    record {
      table = table;
      packages = λ i p is. held_kept g.types new more p (h.packages i p is);
      keys = h.keys;
      nodes = λ i n is. node_kept g (record g { types = new }) keeps i n (h.nodes i n is);
      aliases = h.aliases;
      imports = h.imports;
      import_names = h.import_names;
      exports = h.exports;
      export_names = h.export_names;
    }

pub sound_entry : (g : Parts) (e : Entry) → EachKind (Names g.types) (children e) → IsSound g → IsSound (with_entry g e)
sound_entry g e here h = sound_grown g (g.types ++ e ∷ []) (e ∷ [], refl) (table_more g.types e h.table here) h

pub sound_package : (g : Parts) (p : HeldPackage) → IsHeld g.types p → package_keyed p.key g.packages ≡ None → IsSound g → IsSound (record g { packages = g.packages ++ p ∷ [] })
sound_package g p here new h =
    let after : Parts = record g { packages = g.packages ++ p ∷ [] } in
    let keeps : Keeps g after = extends_keeps g after (record { types = no_more g.types; packages = one_more g.packages p; nodes = all_stay g.nodes; imports = no_more g.imports; exports = no_more g.exports }) in
    record {
      table = h.table;
      packages = each_more (λ _ q. IsHeld g.types q) g.packages p h.packages here;
      keys = differ_more (λ (q : HeldPackage). q.key) g.packages p h.keys (λ i q is same. other_key p.key q.key (none_at (λ (x : HeldPackage). same_key p.key x.key) g.packages i q new is) same);
      nodes = λ i n is. node_kept g after keeps i n (h.nodes i n is);
      aliases = h.aliases;
      imports = h.imports;
      import_names = h.import_names;
      exports = h.exports;
      export_names = h.export_names;
    }

pub sound_export : (g : Parts) (name : List ℕ) (node : ℕ) → node < length g.nodes → IsFresh name g.exports → IsSound g → IsSound (with_export g name node)
sound_export g name node there new h =
    let after : Parts = with_export g name node in
    let keeps : Keeps g after = extends_keeps g after (record { types = no_more g.types; packages = no_more g.packages; nodes = all_stay g.nodes; imports = no_more g.imports; exports = one_more g.exports (name, node) }) in
    record {
      table = h.table;
      packages = h.packages;
      keys = h.keys;
      nodes = λ i n is. node_kept g after keeps i n (h.nodes i n is);
      aliases = h.aliases;
      imports = h.imports;
      import_names = h.import_names;
      exports = all_more (λ (e : List ℕ × ℕ). e.1 < length g.nodes) g.exports (name, node) h.exports there;
      export_names = names_more g.exports name node h.export_names new;
    }

-- where no alias is found, no node is one
not_alias : (node : ℕ) (export : List ℕ) (ns : List Node) (k : ℕ) (z : Node) → alias_in ns node export ≡ None → slice_get ns k ≡ Some z → z.form ≡ alias node export → ⊥
not_alias node export ns k z none at is =
    let other : is_alias_of node export z.form ≡ false = none_at (λ (n : Node). is_alias_of node export n.form) ns k z none at in
    let same : is_alias_of node export (alias node export) ≡ true = itself node export in
    let both : is_alias_of node export z.form ≡ is_alias_of node export (alias node export) = ap (is_alias_of node export) is in
    cc

aliased_more : (ns : List Node) (n : Node) → ((node : ℕ) (export : List ℕ) → n.form ≡ alias node export → alias_in ns node export ≡ None) → AliasedOnce ns → AliasedOnce (ns ++ n ∷ [])
aliased_more ns n new h i j x y node export at_i at_j p q = elim (get_more ns n x i at_i) [
  | inl a ↦ elim (get_more ns n y j at_j) [ inl b ↦ h i j x y node export a b p q | inr b ↦ absurd (other x i a p (ap (λ (z : Node). z.form) b.1 ∙ q)) ]
  | inr a ↦ elim (get_more ns n y j at_j) [ inl b ↦ absurd (other y j b q (ap (λ (z : Node). z.form) a.1 ∙ p)) | inr b ↦ a.0 ∙ sym b.0 ]
]
  where
    other : (z : Node) (k : ℕ) → slice_get ns k ≡ Some z → z.form ≡ alias node export → n.form ≡ alias node export → ⊥
    other z k at is here = not_alias node export ns k z (new node export here) at is

no_alias : (ns : List Node) (n : Node) → source_in n.form ≡ None → (node : ℕ) (export : List ℕ) → n.form ≡ alias node export → alias_in ns node export ≡ None
no_alias ns n none node export is = (let some : source_in n.form ≡ Some (node, export) = ap source_in is in absurd (cc))

-- one more node of a graph that keeps the others
node_more : (g after : Parts) (n : Node) → Keeps g after → IsSoundNode after (length g.nodes) n → IsSound g → EachAt (IsSoundNode after) (g.nodes ++ n ∷ [])
node_more g after n keeps here h = each_more (IsSoundNode after) g.nodes n (λ i m is. node_kept g after keeps i m (h.nodes i m is)) here

exports_more : (g : Parts) (n : Node) → IsSound g → NamesNodes (length (g.nodes ++ n ∷ [])) g.exports
exports_more g n h = nodes_kept (length g.nodes) (length (g.nodes ++ n ∷ [])) g.exports (omega (arith, length-append g.nodes (n ∷ []))) h.exports

pub sound_import : (g : Parts) (name : List ℕ) (k : ItemKind) → IsFresh name g.imports → Names g.types k → IsSound g → IsSound (with_import g name k)
sound_import g name k new named h =
    let n : Node = plain_node (import name) k in
    let after : Parts = with_import g name k in
    let keeps : Keeps g after = extends_keeps g after (record { types = no_more g.types; packages = no_more g.packages; nodes = stay_more g.nodes n; imports = one_more g.imports (name, length g.nodes); exports = no_more g.exports }) in
    record {
      table = h.table;
      packages = h.packages;
      keys = h.keys;
      nodes = node_more g after n keeps (record { named = named; placed = tt }) h;
      aliases = aliased_more g.nodes n (no_alias g.nodes n refl) h.aliases;
      imports = ap (λ (l : Named ℕ). l ++ (name, length g.nodes) ∷ []) h.imports ∙ sym (import_append g.nodes name k);
      import_names = names_more g.imports name (length g.nodes) h.import_names new;
      exports = exports_more g n h;
      export_names = h.export_names;
    }

pub sound_definition : (g : Parts) (name : List ℕ) (k : ItemKind) → IsFresh name g.exports → Names g.types k → IsSound g → IsSound (with_definition g name k)
sound_definition g name k new named h =
    let n : Node = plain_node definition k in
    let after : Parts = with_definition g name k in
    let keeps : Keeps g after = extends_keeps g after (record { types = no_more g.types; packages = no_more g.packages; nodes = stay_more g.nodes n; imports = no_more g.imports; exports = one_more g.exports (name, length g.nodes) }) in
    record {
      table = h.table;
      packages = h.packages;
      keys = h.keys;
      nodes = node_more g after n keeps (record { named = named; placed = record { name = name; found = found_last name g.exports (length g.nodes) new } }) h;
      aliases = aliased_more g.nodes n (no_alias g.nodes n refl) h.aliases;
      imports = h.imports ∙ sym (other_append g.nodes n refl);
      import_names = h.import_names;
      exports = all_more (λ (e : List ℕ × ℕ). e.1 < length (g.nodes ++ n ∷ [])) g.exports (name, length g.nodes) (exports_more g n h) (omega (arith, length-append g.nodes (n ∷ [])));
      export_names = names_more g.exports name (length g.nodes) h.export_names new;
    }

pub sound_alias : (g : Parts) (node : ℕ) (export : List ℕ) (k : ItemKind) → export_kind g node export ≡ Some k → alias_in g.nodes node export ≡ None → IsSound g → IsSound (with_alias g node export k)
sound_alias g node export k exported new h =
    let n : Node = plain_node (alias node export) k in
    let after : Parts = with_alias g node export k in
    let keeps : Keeps g after = extends_keeps g after (record { types = no_more g.types; packages = no_more g.packages; nodes = stay_more g.nodes n; imports = no_more g.imports; exports = no_more g.exports }) in
    record {
      table = h.table;
      packages = h.packages;
      keys = h.keys;
      nodes = node_more g after n keeps (record { named = export_kind_names g node export k h.table exported; placed = record { earlier = exporting_there g node export k exported; kind = keeps.exports node export k exported } }) h;
      aliases = aliased_more g.nodes n (λ s e is. let from : node ≡ s = cc in let to : export ≡ e = cc in subst (λ (x : ℕ). alias_in g.nodes x e ≡ None) from (subst (λ (x : List ℕ). alias_in g.nodes node x ≡ None) to new)) h.aliases;
      imports = h.imports ∙ sym (other_append g.nodes n refl);
      import_names = h.import_names;
      exports = exports_more g n h;
      export_names = h.export_names;
    }

pub sound_instantiation : (g : Parts) (p : ℕ) (of : HeldPackage) → slice_get g.packages p ≡ Some of → IsSound g → IsSound (with_instantiation g p (kinds.Instance of.instance))
sound_instantiation g p of is h =
    let n : Node = plain_node (instantiation p []) (kinds.Instance of.instance) in
    let after : Parts = with_instantiation g p (kinds.Instance of.instance) in
    let keeps : Keeps g after = extends_keeps g after (record { types = no_more g.types; packages = no_more g.packages; nodes = stay_more g.nodes n; imports = no_more g.imports; exports = no_more g.exports }) in
    record {
      table = h.table;
      packages = h.packages;
      keys = h.keys;
      nodes = node_more g after n keeps (record { named = (h.packages p of is).of_instance; placed = record { of = of; held = is; kind = refl; imports = tt; earlier = tt; once = λ i j x y at_i at_j same. absurd (cc) } }) h;
      aliases = aliased_more g.nodes n (no_alias g.nodes n refl) h.aliases;
      imports = h.imports ∙ sym (other_append g.nodes n refl);
      import_names = h.import_names;
      exports = exports_more g n h;
      export_names = h.export_names;
    }

-- ---- a node that is changed in its place

source_back : (f : Form) (node : ℕ) (export : List ℕ) → source_in f ≡ Some (node, export) → f ≡ alias node export
source_back (import name) node export h = absurd (cc)
source_back definition node export h = absurd (cc)
source_back (alias n e) node export h = (let same : (n, e) ≡ (node, export) = cc in let from : n ≡ node = ap (λ (x : ℕ × List ℕ). x.0) same in let to : e ≡ export = ap (λ (x : ℕ × List ℕ). x.1) same in cc)
source_back (instantiation p arguments) node export h = absurd (cc)

aliased_set : (ns : List Node) (i : ℕ) (n m : Node) → slice_get ns i ≡ Some n → source_in m.form ≡ source_in n.form → AliasedOnce ns → AliasedOnce (slice_set ns i m)
aliased_set ns i n m is same h j k x y node export at_j at_k p q =
    let a = before x j at_j p in
    let b = before y k at_k q in
    h j k a.0 b.0 node export a.1 b.1 a.2 b.2
  where
    before : (z : Node) (l : ℕ) → slice_get (slice_set ns i m) l ≡ Some z → z.form ≡ alias node export → (w : Node) × (slice_get ns l ≡ Some w) × (w.form ≡ alias node export)
    before z l at p = elim (get_set ns i m z l at) [
      | inl old ↦ (z, old, p)
      | inr new ↦ (
        n,
        subst (λ (c : ℕ). slice_get ns c ≡ Some n) (sym new.0) is,
        source_back n.form node export (sym same ∙ ap (λ (w : Node). source_in w.form) new.1 ∙ ap source_in p),
      )
    ]

pub sound_changed : (g : Parts) (i : ℕ) (n m : Node) → slice_get g.nodes i ≡ Some n → m.kind ≡ n.kind → import_in m.form ≡ import_in n.form → source_in m.form ≡ source_in n.form
    → (IsPlaced g i n.kind n.form → IsPlaced g i n.kind m.form) → IsSound g → IsSound (record g { nodes = slice_set g.nodes i m })
sound_changed g i n m is kind imported source placed h =
    let after : Parts = record g { nodes = slice_set g.nodes i m } in
    let keeps : Keeps g after = extends_keeps g after (record { types = no_more g.types; packages = no_more g.packages; nodes = stay_set g.nodes i n m is kind; imports = no_more g.imports; exports = no_more g.exports }) in
    let old : IsSoundNode g i n = h.nodes i n is in
    let new : IsSoundNode g i m = record { named = subst (Names g.types) (sym kind) old.named; placed = subst (λ (k : ItemKind). IsPlaced g i k m.form) (sym kind) (placed old.placed) } in
    record {
      table = h.table;
      packages = h.packages;
      keys = h.keys;
      nodes = each_set (IsSoundNode after) g.nodes i m (λ j x at. node_kept g after keeps j x (h.nodes j x at)) (node_kept g after keeps i m new);
      aliases = aliased_set g.nodes i n m is source h.aliases;
      imports = h.imports ∙ sym (imports_set 0 g.nodes i n m is imported);
      import_names = h.import_names;
      exports = subst (λ (k : ℕ). NamesNodes k g.exports) (sym (set_length g.nodes i m)) h.exports;
      export_names = h.export_names;
    }

-- one more argument of an instance
argument_placed : (g : Parts) (i : ℕ) (k : ItemKind) (f : Form) (name : List ℕ) (value : ℕ) → IsSome (option_and_then (λ p. import_kind g p name) (package_in f)) → IsFresh name (arguments_in f) → value < i
    → IsPlaced g i k f → IsPlaced g i k (given_too f name value)
argument_placed g i k (import x) name value is new lt p = tt
argument_placed g i k definition name value is new lt p = p
argument_placed g i k (alias node export) name value is new lt p = p
argument_placed g i k (instantiation q arguments) name value is new lt p = record {
  of = p.of;
  held = p.held;
  kind = p.kind;
  imports = all_more (λ (a : List ℕ × ℕ). IsSome (import_kind g q a.0)) arguments (name, value) p.imports is;
  earlier = all_more (λ (a : List ℕ × ℕ). a.1 < i) arguments (name, value) p.earlier lt;
  once = names_more arguments name value p.once new;
}

same_import : (f : Form) (name : List ℕ) (value : ℕ) → import_in (given_too f name value) ≡ import_in f
same_import (import x) name value = refl
same_import definition name value = refl
same_import (alias node export) name value = refl
same_import (instantiation q arguments) name value = refl

same_source : (f : Form) (name : List ℕ) (value : ℕ) → source_in (given_too f name value) ≡ source_in f
same_source (import x) name value = refl
same_source definition name value = refl
same_source (alias node export) name value = refl
same_source (instantiation q arguments) name value = refl

-- a node of this number is changed, if there is one
sound_changed_in : (g : Parts) (i : ℕ) (f : Node → Node) → ((n : Node) → slice_get g.nodes i ≡ Some n → IsSound (record g { nodes = slice_set g.nodes i (f n) })) → IsSound g → IsSound (changed g i f)
sound_changed_in g i f each h = go (slice_get g.nodes i) refl
  where
    go : (o : Option Node) → slice_get g.nodes i ≡ o → IsSound (record g { nodes = elim o [ None ↦ g.nodes | Some n ↦ slice_set g.nodes i (f n) ] })
    go None is = h
    go (Some n) is = each n is

pub sound_given : (g : Parts) (i : ℕ) (name : List ℕ) (value : ℕ) → IsSome (parameter_kind g i name) → IsFresh name (arguments_of g i) → value < i → IsSound g → IsSound (with_argument g i name value)
sound_given g i name value asked new lt h =
    sound_changed_in g i (λ n. record n { form = given_too n.form name value })
    (λ n is. (
    let imported : IsSome (option_and_then (λ p. import_kind g p name) (package_in n.form)) = subst (λ (o : Option Node). IsSome (option_and_then (λ p. import_kind g p name) (option_and_then (λ (m : Node). package_in m.form) o))) is asked in
    let fresh : IsFresh name (arguments_in n.form) = subst (λ (o : Option Node). IsFresh name (elim o [ None ↦ [] | Some m ↦ arguments_in m.form ])) is new in
    sound_changed g i n (record n { form = given_too n.form name value }) is refl (same_import n.form name value) (same_source n.form name value) (argument_placed g i n.kind n.form name value imported fresh lt) h
    ))
    h

pub sound_named : (g : Parts) (i : ℕ) (name : List ℕ) → IsSound g → IsSound (with_name g i name)
sound_named g i name h = sound_changed_in g i (λ n. record n { name = Some name }) (λ n is. sound_changed g i n (record n { name = Some name }) is refl refl refl (λ p. p) h) h

items_named : (old es new : List Entry) (ds : List (List ℕ × ItemKind)) → IsGrownBy old es new → ItemsNamed es ds → ItemsNamed new (moved_items (length old) ds)
items_named old es new [] g h = tt
items_named old es new (d ∷ ds) g h = (copy_named old es new d.1 g h.0, items_named old es new ds g h.1)

-- a package whose types were copied in
pub held_moved : (old new : List Entry) (key : Key) (p : PackageParts) → IsPackage p → IsGrownBy old p.types new → IsHeld new (moved_package (length old) key p)
held_moved old new key p h g = record {
  of_range = omega (arith, ap length g.1, length-append old g.0, copies_length (length old) p.types g.0 g.2);
  of_world = copy_named old p.types new (kinds.Component p.world) g (package_world p h);
  of_instance = copy_named old p.types new (kinds.Instance p.instance) g (package_instance p h);
  of_definitions = items_named old p.types new p.definitions g (package_definitions p h);
}

pub keeps_grown : (old new : List Entry) → IsGrown old new → KeepsMeanings old new
keeps_grown old new g = keeps_appended old new g.0 g.1
