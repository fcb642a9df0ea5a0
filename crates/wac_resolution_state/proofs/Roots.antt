-- What the names at root denote.
use Rattle.wac_resolution_state.proofs.Common.{◌≡◌, ◌∙◌, ◌<◌, ℕ, zero, suc, List, [], ◌∷◌, ◌++◌, Option, Some, None, Bool, true, false, cond, refl, sym, ap, subst, map, length, slice_get, option_map, AllByRecursion, bytes_eq, map_push, slice_get-map, slice_get_within, Span, Ident, ItemKind, KeepsNames, Meaning, Named, look_up, IsFresh, StandsFor, with_named, Names, ItemsNamed, NodeId, HeldPackage, Parts, means, Numbering, Error, duplicate_name, Node, kind_at, root_scope}
use Rattle.wac_resolution_state.specs.Growth.{Grows}
use Rattle.wac_graph.specs.Node.{Node as GraphNode}
use Rattle.wac_resolution_rules.specs.BrokenWorlds.{IsBound}
use Rattle.wac_resolution_rules.specs.Places.{Places}
use Rattle.wac_resolution_state.specs.Bindings.{Bindings, places_of, values_of}
use Rattle.wac_resolution_state.specs.Named.{scope_of}
use Rattle.wac_resolution_state.proofs.Bound.{read_found}
use Rattle.wac_resolution_state.proofs.Scopes.{memory_model}
use Rattle.wac_resolution_state.specs.declared.root.Root.{Root}
use Rattle.wac_resolution_state.specs.NodeGrowth.{GrowsNodes, IsNamed}
use Rattle.wac_resolution_state.specs.Nodes.{node_of, composition_of, kind_in, Stands, NodesStand}
use Rattle.wac_resolution_state.specs.Root.{numbers_of, composed, places, Agree, EachAgrees, Agrees, Binds, NodeIs}
use Rattle.wac_resolution_state.proofs.Composed.{still_stand}

-- ---- a node's kind

pub kind_means : (numbering : Numbering) (g : Parts) (n : ℕ) (k : ItemKind) → kind_in g.nodes n ≡ Some k → kind_at (map (node_of numbering g) g.nodes) n ≡ means numbering g k
kind_means numbering g n k is =
    ap (λ (o : Option Node). elim o as (λ _. Meaning) [ None ↦ kind_at [] 0 | Some x ↦ x.kind ]) (slice_get-map (node_of numbering g) g.nodes n)
    ∙ go (slice_get g.nodes n) is
  where
    go : (o : Option GraphNode) → option_map (λ (x : GraphNode). x.kind) o ≡ Some k → elim (option_map (node_of numbering g) o) as (λ _. Meaning) [ None ↦ kind_at [] 0 | Some x ↦ x.kind ] ≡ means numbering g k
    go None h = absurd (cc)
    go (Some x) h = (let same : x.kind ≡ k = cc in ap (means numbering g) same)

all_at : {X : Type 0} (P : X → Type 0) (xs : List X) (i : ℕ) (x : X) → AllByRecursion P xs → slice_get xs i ≡ Some x → P x
all_at P [] i x h is = absurd (cc)
all_at {X} P (y ∷ xs) zero x h is = (let same : y ≡ x = cc in subst P same h.0)
all_at {X} P (y ∷ xs) (suc i) x h is = all_at P xs i x h.1 is

pub kind_named : (g : Parts) (n : ℕ) (k : ItemKind) → NodesStand g → kind_in g.nodes n ≡ Some k → Names g.types k
kind_named g n k h is = go (slice_get g.nodes n) refl is
  where
    go : (o : Option GraphNode) → slice_get g.nodes n ≡ o → option_map (λ (x : GraphNode). x.kind) o ≡ Some k → Names g.types k
    go None at has = absurd (cc)
    go (Some x) at has = (let same : x.kind ≡ k = cc in subst (Names g.types) same (all_at (Stands g) g.nodes n x h at).kind)

pub kind_there : (ns : List GraphNode) (n : ℕ) (k : ItemKind) → kind_in ns n ≡ Some k → n < length ns
kind_there ns n k is = go (slice_get ns n) refl is
  where
    go : (o : Option GraphNode) → slice_get ns n ≡ o → option_map (λ (x : GraphNode). x.kind) o ≡ Some k → n < length ns
    go None at has = absurd (cc)
    go (Some x) at has = slice_get_within ns n x at

-- ---- the names

each_scope : (numbering : Numbering) (g : Parts) (ns : Bindings NodeId) (ks : Bindings ItemKind) → EachAgrees g ns ks → map (λ (d : List ℕ × ℕ). (d.0, kind_at (map (node_of numbering g) g.nodes) d.1)) (numbers_of ns) ≡ scope_of numbering g (values_of ks)
each_scope numbering g [] [] h = refl
each_scope numbering g [] (k ∷ ks) h = absurd h
each_scope numbering g (n ∷ ns) [] h = absurd h
each_scope numbering g (n ∷ ns) (k ∷ ks) h =
    let name : n.0 ≡ k.0 = sym h.0.name in
    let kind : kind_at (map (node_of numbering g) g.nodes) n.1.1.0 ≡ means numbering g k.1.1 = kind_means numbering g n.1.1.0 k.1.1 h.0.kind in
    let rest : map (λ (d : List ℕ × ℕ). (d.0, kind_at (map (node_of numbering g) g.nodes) d.1)) (numbers_of ns) ≡ scope_of numbering g (values_of ks) = each_scope numbering g ns ks h.1 in
    cc

-- the root scope of the composition is that in which types are resolved
pub scope_agrees : (numbering : Numbering) (g : Parts) (root : Root) → Agrees g root → root_scope (composed numbering g root) ≡ scope_of numbering g (values_of root.kinds)
scope_agrees numbering g root h = each_scope numbering g root.nodes root.kinds h.names

each_named : (g : Parts) (ns : Bindings NodeId) (ks : Bindings ItemKind) → NodesStand g → EachAgrees g ns ks → ItemsNamed g.types (values_of ks)
each_named g [] [] stand h = tt
each_named g [] (k ∷ ks) stand h = absurd h
each_named g (n ∷ ns) [] stand h = absurd h
each_named g (n ∷ ns) (k ∷ ks) stand h = (kind_named g n.1.1.0 k.1.1 stand h.0.kind, each_named g ns ks stand h.1)

-- each kind that a name at root denotes exists
pub items_named : (g : Parts) (root : Root) → Agrees g root → ItemsNamed g.types (values_of root.kinds)
items_named g root h = each_named g root.nodes root.kinds h.nodes h.names

each_places : (g : Parts) (ns : Bindings NodeId) (ks : Bindings ItemKind) → EachAgrees g ns ks → places_of ks ≡ places_of ns
each_places g [] [] h = refl
each_places g [] (k ∷ ks) h = absurd h
each_places g (n ∷ ns) [] h = absurd h
each_places g (n ∷ ns) (k ∷ ks) h =
    let name : k.0 ≡ n.0 = h.0.name in
    let place : k.1.0 ≡ n.1.0 = h.0.place in
    let rest : places_of ks ≡ places_of ns = each_places g ns ks h.1 in
    cc

-- a name is bound at one place in both
pub places_agree : (g : Parts) (root : Root) → Agrees g root → places_of root.kinds ≡ places root
places_agree g root h = each_places g root.nodes root.kinds h.names

-- what a name denotes in both
pub record Bound (g : Parts) (ks : Bindings ItemKind) (name : List ℕ) (n : ℕ) : Type 0 where
  pub kind : ItemKind
  pub of : kind_in g.nodes n ≡ Some kind
  pub found : look_up name (values_of ks) ≡ Some kind

each_bound : (g : Parts) (ns : Bindings NodeId) (ks : Bindings ItemKind) (name : List ℕ) (n : ℕ) → EachAgrees g ns ks → look_up name (numbers_of ns) ≡ Some n → Bound g ks name n
each_bound g [] [] name n h is = absurd (cc)
each_bound g [] (k ∷ ks) name n h is = absurd h
each_bound g (x ∷ ns) [] name n h is = absurd h
each_bound g (x ∷ ns) (k ∷ ks) name n h is = go (bytes_eq name x.0) (ap (bytes_eq name) h.0.name) (each_bound g ns ks name n h.1) is
  where
    go : (b : Bool) → bytes_eq name k.0 ≡ b → (look_up name (numbers_of ns) ≡ Some n → Bound g ks name n) → cond b (Some x.1.1.0) (look_up name (numbers_of ns)) ≡ Some n → Bound g (k ∷ ks) name n
    go true same later at = record {
      kind = k.1.1;
      of = (let here : x.1.1.0 ≡ n = cc in subst (λ (i : ℕ). kind_in g.nodes i ≡ Some k.1.1) here h.0.kind);
      found = ap (λ (b : Bool). cond b (Some k.1.1) (look_up name (values_of ks))) same;
    }
    go false same later at = (let r = later at in record { kind = r.kind; of = r.of; found = ap (λ (b : Bool). cond b (Some k.1.1) (look_up name (values_of ks))) same ∙ r.found })

-- a name that denotes a node also denotes the node's kind
pub bound_kind : (g : Parts) (root : Root) (name : List ℕ) (n : ℕ) → Agrees g root → look_up name (numbers_of root.nodes) ≡ Some n → Bound g root.kinds name n
bound_kind g root name n h is = each_bound g root.nodes root.kinds name n h.names is

-- the node exists
pub bound_there : (g : Parts) (root : Root) (name : List ℕ) (n : ℕ) → Agrees g root → look_up name (numbers_of root.nodes) ≡ Some n → n < length g.nodes
bound_there g root name n h is = (let b = bound_kind g root name n h is in kind_there g.nodes n b.kind b.of)

-- ---- as the graph grows

each_still : (old new : Parts) (ns : Bindings NodeId) (ks : Bindings ItemKind) → ((n : ℕ) (k : ItemKind) → kind_in old.nodes n ≡ Some k → kind_in new.nodes n ≡ Some k) → EachAgrees old ns ks → EachAgrees new ns ks
each_still old new [] [] keep h = tt
each_still old new [] (k ∷ ks) keep h = absurd h
each_still old new (n ∷ ns) [] keep h = absurd h
each_still old new (n ∷ ns) (k ∷ ks) keep h = (record { name = h.0.name; place = h.0.place; kind = keep n.1.1.0 k.1.1 h.0.kind }, each_still old new ns ks keep h.1)

-- by nodes
pub agrees_nodes : (old new : Parts) (root : Root) → GrowsNodes old new → Agrees old root → Agrees new root
agrees_nodes old new root g h = record { nodes = g.stand; names = each_still old new root.nodes root.kinds g.kinds h.names }

-- by types and packages
pub agrees_expands : (old new : Parts) (root : Root) → new ≡ record old { types = new.types; packages = new.packages } → ((i : ℕ) (p : HeldPackage) → slice_get old.packages i ≡ Some p → slice_get new.packages i ≡ Some p)
    → KeepsNames old.types new.types → Agrees old root → Agrees new root
agrees_expands old new root same held named h = record {
  nodes = still_stand old new same held named h.nodes;
  names = each_still old new root.nodes root.kinds (λ n k is. ap (λ (g : Parts). kind_in g.nodes n) same ∙ is) h.names;
}

-- by types
pub agrees_grows : (old new : Parts) (root : Root) → Grows old new → Agrees old root → Agrees new root
agrees_grows old new root g h =
    let packages : new.packages ≡ old.packages = ap (λ (p : Parts). p.packages) g.same in
    let same : new ≡ record old { types = new.types; packages = new.packages } = g.same ∙ ap (λ (ps : List HeldPackage). record old { types = new.types; packages = ps }) (sym packages) in
    agrees_expands old new root same (λ i p is. ap (λ (ps : List HeldPackage). slice_get ps i) packages ∙ is) g.named h

-- ---- a name is bound

each_more : (g : Parts) (ns : Bindings NodeId) (ks : Bindings ItemKind) (n : List ℕ × (Span × NodeId)) (k : List ℕ × (Span × ItemKind)) → EachAgrees g ns ks → Agree g n k → EachAgrees g (ns ++ n ∷ []) (ks ++ k ∷ [])
each_more g [] [] n k h one = (one, tt)
each_more g [] (y ∷ ks) n k h one = absurd h
each_more g (x ∷ ns) [] n k h one = absurd h
each_more g (x ∷ ns) (y ∷ ks) n k h one = (h.0, each_more g ns ks n k h.1 one)

-- what a fresh name is in both lists
each_fresh : (g : Parts) (ns : Bindings NodeId) (ks : Bindings ItemKind) (name : List ℕ) → EachAgrees g ns ks → IsFresh name ns → IsFresh name ks
each_fresh g [] [] name h is = refl
each_fresh g [] (k ∷ ks) name h is = absurd h
each_fresh g (x ∷ ns) [] name h is = absurd h
each_fresh g (x ∷ ns) (k ∷ ks) name h is = go (bytes_eq name x.0) (ap (bytes_eq name) h.0.name) (each_fresh g ns ks name h.1) is
  where
    go : (b : Bool) → bytes_eq name k.0 ≡ b → (IsFresh name ns → IsFresh name ks) → cond b (Some x.1) (look_up name ns) ≡ None → cond (bytes_eq name k.0) (Some k.1) (look_up name ks) ≡ None
    go true same later at = absurd (cc)
    go false same later at = ap (λ (b : Bool). cond b (Some k.1) (look_up name ks)) same ∙ later at

pub kinds_fresh : (g : Parts) (root : Root) (name : List ℕ) → Agrees g root → IsFresh name root.nodes → IsFresh name root.kinds
kinds_fresh g root name h is = each_fresh g root.nodes root.kinds name h.names is

-- what is read of a fresh name
pub fresh_read : {X Y : Type 0} (read : X → Y) (all : Named X) (name : List ℕ) → IsFresh name all → look_up name (map (λ e. (e.0, read e.1)) all) ≡ None
fresh_read read all name is = read_found read name all ∙ ap (option_map read) is

pub fresh_back : {X Y : Type 0} (read : X → Y) (all : Named X) (name : List ℕ) → look_up name (map (λ e. (e.0, read e.1)) all) ≡ None → IsFresh name all
fresh_back {X} {Y} read all name is = go (look_up name all) (sym (read_found read name all) ∙ is)
  where
    go : (o : Option X) → option_map read o ≡ None → o ≡ None
    go None h = refl
    go (Some x) h = absurd (cc)

pub binds : (old new : Parts) (before after : Root) (x : Ident) (node : NodeId) (k : ItemKind) → Agrees old before → IsFresh x.string before.nodes → IsNamed old new node.0 x.string → kind_in new.nodes node.0 ≡ Some k
    → after.nodes ≡ with_named before.nodes x.string (x.span, node) → after.kinds ≡ with_named before.kinds x.string (x.span, k) → Binds old new before after x node.0
binds old new before after x node k h fresh named kind nodes kinds = record {
  fresh = fresh_read (λ (b : Span × NodeId). b.1.0) before.nodes x.string fresh;
  grows = named.grows;
  agrees = record {
    nodes = named.grows.stand;
    names = subst (λ (ns : Bindings NodeId). EachAgrees new ns after.kinds) (sym nodes)
        (subst (λ (ks : Bindings ItemKind). EachAgrees new (with_named before.nodes x.string (x.span, node)) ks) (sym kinds)
        (each_more new before.nodes before.kinds (x.string, (x.span, node)) (x.string, (x.span, k)) (each_still old new before.nodes before.kinds named.grows.kinds h.names) (record { name = refl; place = refl; kind = kind })));
  };
  is = λ numbering.
      ap (λ (ns : Bindings NodeId). composition_of numbering new (numbers_of ns)) nodes
      ∙ ap (composition_of numbering new) (map_push (λ (b : List ℕ × (Span × NodeId)). (b.0, b.1.1.0)) before.nodes (x.string, (x.span, node)))
      ∙ named.is numbering (with_named (numbers_of before.nodes) x.string node.0);
  places = ap places_of nodes ∙ map_push (λ (b : List ℕ × (Span × NodeId)). (b.0, b.1.0)) before.nodes (x.string, (x.span, node));
}

-- the name was bound before
pub bound_already : (root : Root) (x : Ident) (previous : Span) (e : Error) → look_up x.string (places root) ≡ Some previous → e ≡ duplicate_name x.string x.span previous
    → (numbering : Numbering) (g : Parts) (all : Places) → all.bound ≡ places root → IsBound (composed numbering g root) all x e
bound_already root x previous e is error_is numbering g all same = go (look_up x.string root.nodes) refl
  where
    go : (o : Option (Span × NodeId)) → look_up x.string root.nodes ≡ o → (n : ℕ) × (at : Span) × StandsFor (numbers_of root.nodes) x.string n × StandsFor all.bound x.string at × (e ≡ duplicate_name x.string x.span at)
    go None none = absurd (let p : look_up x.string (places root) ≡ None = fresh_read (λ (b : Span × NodeId). b.0) root.nodes x.string none in cc)
    go (Some b) found = (
      b.1.0,
      previous,
      read_found (λ (c : Span × NodeId). c.1.0) x.string root.nodes ∙ ap (option_map (λ (c : Span × NodeId). c.1.0)) found,
      ap (look_up x.string) same ∙ is,
      error_is,
    )

-- ---- a name is looked up

number_found : (all : Bindings NodeId) (name : List ℕ) (n : NodeId) → look_up name (values_of all) ≡ Some n → look_up name (numbers_of all) ≡ Some n.0
number_found all name n is = read_found (λ (b : Span × NodeId). b.1.0) name all ∙ go (look_up name all) (sym (read_found (λ (b : Span × NodeId). b.1) name all) ∙ is)
  where
    go : (o : Option (Span × NodeId)) → option_map (λ (b : Span × NodeId). b.1) o ≡ Some n → option_map (λ (b : Span × NodeId). b.1.0) o ≡ Some n.0
    go None h = absurd (cc)
    go (Some b) h = (let same : b.1 ≡ n = cc in ap (λ (m : NodeId). Some m.0) same)

pub node_is : (root : Root) (x : Ident) (n : NodeId) → look_up x.string (values_of root.nodes) ≡ Some n → NodeIs root x n
node_is root x n is =
    let found : look_up x.string (numbers_of root.nodes) ≡ Some n.0 = number_found root.nodes x.string n is in
    record { is = found; there = λ g h. bound_there g root x.string n.0 h found }

pub number_fresh : (root : Root) (name : List ℕ) → look_up name (values_of root.nodes) ≡ None → IsFresh name (numbers_of root.nodes)
number_fresh root name is = fresh_read (λ (b : Span × NodeId). b.1.0) root.nodes name (fresh_back (λ (b : Span × NodeId). b.1) root.nodes name is)

pub place_fresh : (root : Root) (name : List ℕ) → look_up name (places root) ≡ None → IsFresh name root.nodes
place_fresh root name is = fresh_back (λ (b : Span × NodeId). b.0) root.nodes name is

pub ruleset nodes_found = (node_is, number_fresh, place_fresh, memory_model)
