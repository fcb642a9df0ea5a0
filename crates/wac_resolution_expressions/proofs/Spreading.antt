-- Spreads, name by name.
use Rattle.wac_resolution_expressions.proofs.Common.{◌≡◌, ◌∙◌, ◌+◌, ◌<◌, ℕ, List, [], ◌∷◌, ◌++◌, Option, Some, None, Bool, true, false, cond, refl, sym, ap, subst, map, take, length, get_or, fold, is_some, is_none, append_assoc, append-nil, option_map, IfSome, string_bytes, String, Global, map_push, length-map, get_or-map, ItemKind, InterfaceId, WorldId, Entry, Meaning, interface_exports, world_imports, Named, look_up, with_named, exports_of, items_mean, Names, NodeId, Parts, export_kind, means, entry_means, EntriesMean, Numbering, At, Giving, at, alias_at, given_too, spread_step, names_of, instance_of, read_found, AliasStep, GrowsNodes, IsInstance, composition_of, kind_in, NodesStand, grows_none, grows_on, still_there, export_meant, kind_means}
use Rattle.std.proofs.lemmas.List.Sums.{fold_more}
use Rattle.wac_graph_types.specs.declared.kind.ItemKind.TheVariants as kinds
use Rattle.wac_resolution_expressions.specs.Arguments.{given_nodes}
use Rattle.wac_resolution_expressions.specs.Spreads.{giving_of, GivenThere, imports_at, name_spread, NamesSpread, NodeSpread}
use Rattle.wac_resolution_expressions.proofs.Imports.{imports_meant}

-- with more nodes entries mean the same
pub entry_same : (old new : Parts) → GrowsNodes old new → (numbering : Numbering) (i : ℕ) → entry_means numbering new i ≡ entry_means numbering old i
entry_same old new g numbering i = ap (λ (p : Parts). entry_means numbering p i) g.same

types_same : (old new : Parts) → GrowsNodes old new → new.types ≡ old.types
types_same old new g = ap (λ (p : Parts). p.types) g.same

-- an instance stays one
pub instance_kept : (old new : Parts) (node : ℕ) (i : InterfaceId) → GrowsNodes old new → IsInstance old node i → IsInstance new node i
instance_kept old new node i g h = record {
  kind = kind;
  named = subst (λ (es : List Entry). Names es (kinds.Instance i)) (sym (types_same old new g)) h.named;
  is = λ numbering declared. ap instance_of (kind_means numbering new node (kinds.Instance i) kind);
  exports = λ numbering. subst (λ (p : Parts). exports_of (entry_means numbering p i.0) ≡ items_mean (entry_means numbering p) (interface_exports p.types i.0)) (sym g.same) (h.exports numbering);
}
  where
    kind : kind_in new.nodes node ≡ Some (kinds.Instance i)
    kind = g.kinds node (kinds.Instance i) h.kind

-- ---- given nodes

pub given_kept : (old new : Parts) (all : Named NodeId) → GrowsNodes old new → GivenThere old all → GivenThere new all
given_kept old new [] g h = tt
given_kept old new (e ∷ all) g h = (still_there old new e.1.0 g h.0, given_kept old new all g h.1)

given_more : (g : Parts) (all : Named NodeId) (name : List ℕ) (n : NodeId) → GivenThere g all → n.0 < length g.nodes → GivenThere g (with_named all name n)
given_more g [] name n h there = (there, tt)
given_more g (e ∷ all) name n h there = (h.0, given_more g all name n h.1 there)

given_found : (all : Named NodeId) (name : List ℕ) → look_up name (given_nodes all) ≡ option_map (λ (n : NodeId). n.0) (look_up name all)
given_found all name = read_found (λ (n : NodeId). n.0) name all

given_some : (all : Named NodeId) (name : List ℕ) → is_some (look_up name (given_nodes all)) ≡ is_some (look_up name all)
given_some all name = ap is_some (given_found all name) ∙ go (look_up name all)
  where
    go : (o : Option NodeId) → is_some (option_map (λ (n : NodeId). n.0) o) ≡ is_some o
    go None = refl
    go (Some n) = refl

-- ---- a name

abbrev exported_step : Option Meaning → ℕ → Giving → List ℕ → Giving
exported_step o node g name = elim o as (λ _. Giving) [ None ↦ g | Some k ↦ given_too g name (alias_at (at g.composition node) name k) ]

spread_given : (node : ℕ) (exports : Named Meaning) (g : Giving) (name : List ℕ) → is_some (look_up name g.arguments) ≡ true → name_spread node exports g name ≡ g
spread_given node exports g name is = ap (λ (b : Bool). cond b g (exported_step (look_up name exports) node g name)) is

spread_open : (node : ℕ) (exports : Named Meaning) (g : Giving) (name : List ℕ) (o : Option Meaning) → is_some (look_up name g.arguments) ≡ false → look_up name exports ≡ o → name_spread node exports g name ≡ exported_step o node g name
spread_open node exports g name o is at = ap (λ (b : Bool). cond b g (exported_step (look_up name exports) node g name)) is ∙ ap (λ (x : Option Meaning). exported_step x node g name) at

pub name_given : (g : Parts) (all : Named NodeId) (node : ℕ) (name : List ℕ) → NodesStand g → GivenThere g all → is_some (look_up name all) ≡ true → NamesSpread g g all all node (name ∷ [])
name_given g all node name stand there is = record {
  grows = grows_none g stand;
  there = there;
  is = λ i h numbering declared. sym (spread_given node (exports_of (entry_means numbering g i.0)) (giving_of numbering g declared all) name (given_some all name ∙ is));
}

none_is : {X : Type 0} (o : Option X) → is_none o ≡ true → o ≡ None
none_is None is = refl
none_is (Some x) is = absurd (cc)

pub name_missing : (g : Parts) (all : Named NodeId) (node : ℕ) (name : List ℕ) → NodesStand g → GivenThere g all → is_some (look_up name all) ≡ false → is_none (export_kind g node name) ≡ true → NamesSpread g g all all node (name ∷ [])
name_missing g all node name stand there is none = record {
  grows = grows_none g stand;
  there = there;
  is = λ i h numbering declared.
      sym (spread_open node (exports_of (entry_means numbering g i.0)) (giving_of numbering g declared all) name None (given_some all name ∙ is)
      (export_meant g node i name h numbering ∙ ap (option_map (means numbering g)) (none_is (export_kind g node name) none)));
}

name_aliased : (old new : Parts) (before after : Named NodeId) (node : ℕ) (name : List ℕ) (n : NodeId) (k : ItemKind) → GivenThere old before → is_some (look_up name before) ≡ false → export_kind old node name ≡ Some k
    → AliasStep old new node name k n.0 → after ≡ with_named before name n → NamesSpread old new before after node (name ∷ [])
name_aliased old new before after node name n k there is exported goes pushed = record {
  grows = goes.grows;
  there = subst (GivenThere new) (sym pushed) (given_more new before name n (given_kept old new before goes.grows there) goes.there);
  is = λ i h numbering declared.
      ap (λ (l : Named ℕ). record { composition = composition_of numbering new declared; arguments = l }) (ap given_nodes pushed ∙ map_push (λ (e : List ℕ × NodeId). (e.0, e.1.0)) before (name, n))
      ∙ ap (λ (a : At). record { composition = a.composition; arguments = with_named (given_nodes before) name a.node }) (goes.is numbering declared)
      ∙ sym (spread_open node (exports_of (entry_means numbering old i.0)) (giving_of numbering old declared before) name (Some (means numbering old k)) (given_some before name ∙ is) (export_meant old node i name h numbering ∙ ap (option_map (means numbering old)) exported));
}

pub name_exported : (old new : Parts) (before after : Named NodeId) (node : ℕ) (name : List ℕ) (n : NodeId) → GivenThere old before → is_some (look_up name before) ≡ false → is_none (export_kind old node name) ≡ false
    → IfSome (export_kind old node name) (λ k. AliasStep old new node name k n.0) → after ≡ with_named before name n → NamesSpread old new before after node (name ∷ [])
name_exported old new before after node name n there is some goes pushed = go (export_kind old node name) refl some goes
  where
    go : (o : Option ItemKind) → export_kind old node name ≡ o → is_none o ≡ false → IfSome o (λ k. AliasStep old new node name k n.0) → NamesSpread old new before after node (name ∷ [])
    go None at s a = absurd (cc)
    go (Some k) at s a = name_aliased old new before after node name n k there is at a pushed

-- ---- in order

pub no_names : (g : Parts) (all : Named NodeId) (node : ℕ) → NodesStand g → GivenThere g all → NamesSpread g g all all node []
no_names g all node stand there = record { grows = grows_none g stand; there = there; is = λ i h numbering declared. refl }

pub names_on : (old mid new : Parts) (before between after : Named NodeId) (node : ℕ) (names : List (List ℕ)) (i : ℕ) (name d : List ℕ) → i < length names → get_or names i d ≡ name
    → NamesSpread old mid before between node (take i names) → NamesSpread mid new between after node (name ∷ []) → NamesSpread old new before after node (take (i + 1) names)
names_on old mid new before between after node names i name d within is p q = record {
  grows = grows_on old mid new p.grows q.grows;
  there = q.there;
  is = λ x h numbering declared.
      let exports : Named Meaning = exports_of (entry_means numbering old x.0) in
      q.is x (instance_kept old mid node x p.grows h) numbering declared
      ∙ ap (λ (m : Meaning). name_spread node (exports_of m) (giving_of numbering mid declared between) name) (entry_same old mid p.grows numbering x.0)
      ∙ ap (λ (g : Giving). name_spread node exports g name) (p.is x h numbering declared)
      ∙ ap (name_spread node exports (fold (name_spread node exports) (giving_of numbering old declared before) (take i names))) (sym is)
      ∙ sym (fold_more (name_spread node exports) (giving_of numbering old declared before) names i d within);
}

-- the same in a loop
pub names_next : (old mid new : Parts) (before between after : Named NodeId) (node : ℕ) (ys : List (String Global)) (i : ℕ) (y : String Global) (text : List ℕ) → i < length ys → y ≡ get_or ys i y → text ≡ string_bytes y
    → NamesSpread old mid before between node (take i (map string_bytes ys)) → NamesSpread mid new between after node (text ∷ []) → NamesSpread old new before after node (take (i + 1) (map string_bytes ys))
names_next old mid new before between after node ys i y text within is reads p q =
    names_on old mid new before between after node (map string_bytes ys) i text (string_bytes y) (subst (λ (k : ℕ). i < k) (sym (length-map ys string_bytes)) within)
    (get_or-map string_bytes ys i y (string_bytes y) within ∙ ap string_bytes (sym is) ∙ sym reads) p q

pub names_all : (old new : Parts) (before after : Named NodeId) (node : ℕ) (some all : List (List ℕ)) → some ≡ all → NamesSpread old new before after node some → NamesSpread old new before after node all
names_all old new before after node some all is p = subst (NamesSpread old new before after node) is p

-- ---- copied names

pub copied_next : (all rest left : Named ItemKind) (x : List ℕ × ItemKind) (items more : List (String Global)) (copy : String Global) → rest ≡ x ∷ left → string_bytes copy ≡ x.0 → more ≡ items ++ copy ∷ []
    → map string_bytes items ++ names_of rest ≡ names_of all → map string_bytes more ++ names_of left ≡ names_of all
copied_next all rest left x items more copy is reads pushed h =
    ap (λ (l : List (String Global)). map string_bytes l ++ names_of left) pushed
    ∙ ap (λ (l : List (List ℕ)). l ++ names_of left) (map_push string_bytes items copy)
    ∙ append_assoc (map string_bytes items) (string_bytes copy ∷ []) (names_of left)
    ∙ ap (λ (n : List ℕ). map string_bytes items ++ n ∷ names_of left) reads
    ∙ ap (λ (l : Named ItemKind). map string_bytes items ++ names_of l) (sym is)
    ∙ h

pub copied_end : (all rest : Named ItemKind) (items : List (String Global)) → rest ≡ [] → map string_bytes items ++ names_of rest ≡ names_of all → map string_bytes items ≡ names_of all
copied_end all rest items is h = sym (append-nil (map string_bytes items)) ∙ ap (λ (l : Named ItemKind). map string_bytes items ++ names_of l) (sym is) ∙ h

-- ---- over what a world imports

by_names : (node : ℕ) (exports : Named Meaning) (g : Giving) (imports : Named Meaning) → fold (spread_step node exports) g imports ≡ fold (name_spread node exports) g (names_of imports)
by_names node exports g [] = refl
by_names node exports g (x ∷ imports) = by_names node exports (spread_step node exports g x) imports

names_mean : (f : ℕ → Meaning) (ks : Named ItemKind) → names_of (items_mean f ks) ≡ names_of ks
names_mean f [] = refl
names_mean f (k ∷ ks) = ap (λ (l : List (List ℕ)). k.0 ∷ l) (names_mean f ks)

pub spread_over : (old new : Parts) (before after : Named NodeId) (node : ℕ) (w : WorldId) (names : List (List ℕ)) → EntriesMean old → Names old.types (kinds.Component w) → names ≡ names_of (world_imports old.types w.0)
    → NamesSpread old new before after node names → NodeSpread old new before after node w
spread_over old new before after node w names law named are p = record {
  grows = p.grows;
  there = p.there;
  is = λ i h numbering declared.
      let exports : Named Meaning = exports_of (entry_means numbering old i.0) in
      let start : Giving = giving_of numbering old declared before in
      let imported : names_of (imports_at numbering old w) ≡ names = ap names_of (imports_meant old w law named numbering) ∙ names_mean (entry_means numbering old) (world_imports old.types w.0) ∙ sym are in
      p.is i h numbering declared ∙ ap (fold (name_spread node exports) start) (sym imported) ∙ sym (by_names node exports start (imports_at numbering old w));
}
