-- The composition as its graph grows.
use Rattle.wac_resolution_state.proofs.Common.{◌≡◌, ◌∙◌, ◌<◌, ℕ, zero, suc, List, [], ◌∷◌, ◌++◌, Option, Some, None, refl, sym, ap, subst, map, length, arith, true, false, Bor, slice_get, slice_set, option_map, option_and_then, unwrap_or, is_some, IfSome, IsSome, AllByRecursion, position, map_push, length-map, slice_get-map, slice_get_within, ItemKind, KeepsNames, Meaning, Named, with_named, Names, HeldPackage, means, declared_count, Numbering, IsSound, IsSoundNode, IsPlaced, Composition, Node, NodeForm, imported, definition, aliased, with_node, with_export, with_resources, named_at, first_name, at, is_alias_of, alias_in, alias_number, next_of, with_alias, with_instance}
use Rattle.wac_resolution_state.specs.Growth.{Grows}
use Rattle.std.proofs.lemmas.List.Quantifiers.{position-Some}
use Rattle.wac_graph.specs.Node.{Node as GraphNode, Form, import, definition as defined, alias, instantiation, package_in, arguments_in, is_alias_of as is_alias_in}
use Rattle.wac_graph.specs.Graph.{Parts, plain_node, with_import, with_definition, with_export as export_too, with_alias as alias_too, with_instantiation, with_argument, with_name, given_too, alias_in as alias_in_nodes, export_kind}
use Rattle.wac_graph.specs.Aliased.{IsAliased, added as aliased_by}
use Rattle.wac_graph.proofs.Lists.{get_kept, get_last, map_set, set_read}
use Rattle.wac_graph.proofs.Calls.{position_map}
use Rattle.wac_resolution_state.specs.Nodes.{instance_form, form_in, node_of, composition_of, kind_in, Stands, NodesStand}
use Rattle.wac_resolution_state.specs.NodeGrowth.{GrowsNodes, IsNamed}
use Rattle.wac_resolution_state.specs.Accesses.{AliasStep}

-- ---- nodes of a sound graph

placed_held : (g : Parts) (i : ℕ) (k : ItemKind) (f : Form) → IsPlaced g i k f → IfSome (package_in f) (λ p. IsSome (slice_get g.packages p))
placed_held g i k (import name) h = tt
placed_held g i k defined h = tt
placed_held g i k (alias node export) h = tt
placed_held g i k (instantiation p arguments) h = subst (λ (o : Option HeldPackage). IsSome o) (sym h.held) refl

stands_well : (g : Parts) (i : ℕ) (n : GraphNode) → IsSoundNode g i n → Stands g n
stands_well g i n h = record { kind = h.named; held = placed_held g i n.kind n.form h.placed }

each_stands : {X : Type 0} (P : ℕ → X → Type 0) (Q : X → Type 0) → ((i : ℕ) (x : X) → P i x → Q x) → (xs : List X) → ((i : ℕ) (x : X) → slice_get xs i ≡ Some x → P i x) → AllByRecursion Q xs
each_stands P Q to [] h = tt
each_stands {X} P Q to (x ∷ xs) h = (to 0 x (h 0 x refl), each_stands (λ i. P (suc i)) Q (λ i. to (suc i)) xs (λ i y is. h (suc i) y is))

-- in a sound graph the kind and the package of each node exist
pub sound_stands : (g : Parts) → IsSound g → NodesStand g
sound_stands g h = each_stands (IsSoundNode g) (Stands g) (stands_well g) g.nodes h.nodes

-- ---- more types and packages

instance_kept : (old new : List HeldPackage) → ((i : ℕ) (p : HeldPackage) → slice_get old i ≡ Some p → slice_get new i ≡ Some p) → (i : ℕ) → IsSome (slice_get old i) → slice_get new i ≡ slice_get old i
instance_kept old new held i h = go (slice_get old i) refl h
  where
    go : (o : Option HeldPackage) → slice_get old i ≡ o → IsSome o → slice_get new i ≡ o
    go None is h = absurd (cc)
    go (Some p) is h = held i p is

form_kept : (old new : List HeldPackage) → ((i : ℕ) (p : HeldPackage) → slice_get old i ≡ Some p → slice_get new i ≡ Some p) → (f : Form) → IfSome (package_in f) (λ p. IsSome (slice_get old p)) → form_in new f ≡ form_in old f
form_kept old new held (import name) h = refl
form_kept old new held defined h = refl
form_kept old new held (alias node export) h = refl
form_kept old new held (instantiation p arguments) h = ap instance_form (instance_kept old new held p h)

-- a node still means the same
node_kept : (old new : Parts) (numbering : Numbering) → ((i : ℕ) (p : HeldPackage) → slice_get old.packages i ≡ Some p → slice_get new.packages i ≡ Some p)
    → ((k : ItemKind) → Names old.types k → means numbering new k ≡ means numbering old k) → (n : GraphNode) → Stands old n → node_of numbering new n ≡ node_of numbering old n
node_kept old new numbering held kinds n h =
    ap (λ (f : NodeForm). record { form = f; kind = means numbering new n.kind; name = n.name; arguments = arguments_in n.form }) (form_kept old.packages new.packages held n.form h.held)
    ∙ ap (λ (m : Meaning). record { form = form_in old.packages n.form; kind = m; name = n.name; arguments = arguments_in n.form }) (kinds n.kind h.kind)

nodes_kept : (old new : Parts) (numbering : Numbering) → ((i : ℕ) (p : HeldPackage) → slice_get old.packages i ≡ Some p → slice_get new.packages i ≡ Some p)
    → ((k : ItemKind) → Names old.types k → means numbering new k ≡ means numbering old k) → (ns : List GraphNode) → AllByRecursion (Stands old) ns → map (node_of numbering new) ns ≡ map (node_of numbering old) ns
nodes_kept old new numbering held kinds [] h = refl
nodes_kept old new numbering held kinds (n ∷ ns) h =
    ap (λ (x : Node). x ∷ map (node_of numbering new) ns) (node_kept old new numbering held kinds n h.0)
    ∙ ap (λ (l : List Node). node_of numbering old n ∷ l) (nodes_kept old new numbering held kinds ns h.1)

-- where only types and packages were added, the composition has at most more resources
pub composition_expands : (old new : Parts) (declared : Named ℕ) (numbering : Numbering) → new ≡ record old { types = new.types; packages = new.packages }
    → ((i : ℕ) (p : HeldPackage) → slice_get old.packages i ≡ Some p → slice_get new.packages i ≡ Some p) → ((k : ItemKind) → Names old.types k → means numbering new k ≡ means numbering old k) → NodesStand old
    → composition_of numbering new declared ≡ with_resources (composition_of numbering old declared) (declared_count new)
composition_expands old new declared numbering same held kinds h =
    let nodes : new.nodes ≡ old.nodes = ap (λ (p : Parts). p.nodes) same in
    let exports : new.exports ≡ old.exports = ap (λ (p : Parts). p.exports) same in
    let mean : map (node_of numbering new) new.nodes ≡ map (node_of numbering old) old.nodes = ap (map (node_of numbering new)) nodes ∙ nodes_kept old new numbering held kinds old.nodes h in
    ap (λ (ns : List Node). record { nodes = ns; exports = new.exports; declared = declared; resources = declared_count new }) mean
    ∙ ap (λ (es : Named ℕ). record { nodes = map (node_of numbering old) old.nodes; exports = es; declared = declared; resources = declared_count new }) exports

-- where only types were added
pub composition_grows : (old new : Parts) (declared : Named ℕ) (numbering : Numbering) → Grows old new → NodesStand old → composition_of numbering new declared ≡ with_resources (composition_of numbering old declared) (declared_count new)
composition_grows old new declared numbering g h =
    let packages : new.packages ≡ old.packages = ap (λ (p : Parts). p.packages) g.same in
    let same : new ≡ record old { types = new.types; packages = new.packages } = g.same ∙ ap (λ (ps : List HeldPackage). record old { types = new.types; packages = ps }) (sym packages) in
    composition_expands old new declared numbering same (λ i p is. ap (λ (ps : List HeldPackage). slice_get ps i) packages ∙ is) (g.kinds numbering) h

-- in a graph with more types and packages the kinds and the packages of nodes still exist
each_still_stands : (old new : Parts) → ((i : ℕ) (p : HeldPackage) → slice_get old.packages i ≡ Some p → slice_get new.packages i ≡ Some p) → KeepsNames old.types new.types → (ns : List GraphNode)
    → AllByRecursion (Stands old) ns → AllByRecursion (Stands new) ns
each_still_stands old new held named [] h = tt
each_still_stands old new held named (n ∷ ns) h = (record { kind = named n.kind h.0.kind; held = still (package_in n.form) h.0.held }, each_still_stands old new held named ns h.1)
  where
    there : (p : ℕ) (o : Option HeldPackage) → slice_get old.packages p ≡ o → IsSome o → IsSome (slice_get new.packages p)
    there p None is h = absurd (cc)
    there p (Some x) is h = subst (λ (o : Option HeldPackage). IsSome o) (sym (held p x is)) refl

    still : (o : Option ℕ) → IfSome o (λ p. IsSome (slice_get old.packages p)) → IfSome o (λ p. IsSome (slice_get new.packages p))
    still None h = tt
    still (Some p) h = there p (slice_get old.packages p) refl h

pub still_stand : (old new : Parts) → new ≡ record old { types = new.types; packages = new.packages } → ((i : ℕ) (p : HeldPackage) → slice_get old.packages i ≡ Some p → slice_get new.packages i ≡ Some p)
    → KeepsNames old.types new.types → NodesStand old → NodesStand new
still_stand old new same held named h = subst (λ (ns : List GraphNode). AllByRecursion (Stands new) ns) (sym (ap (λ (p : Parts). p.nodes) same)) (each_still_stands old new held named old.nodes h)

-- ---- one more node

-- the number of the node that comes next
pub next_is : (numbering : Numbering) (g : Parts) (declared : Named ℕ) → next_of (composition_of numbering g declared) ≡ length g.nodes
next_is numbering g declared = length-map g.nodes (node_of numbering g)

added : (g : Parts) (declared : Named ℕ) (numbering : Numbering) (n : GraphNode) → composition_of numbering (record g { nodes = g.nodes ++ n ∷ [] }) declared ≡ record (composition_of numbering g declared) { nodes = map (node_of numbering g) g.nodes ++ node_of numbering g n ∷ [] }
added g declared numbering n = ap (λ (ns : List Node). record { nodes = ns; exports = g.exports; declared = declared; resources = declared_count g }) (map_push (node_of numbering g) g.nodes n)

pub composition_imports : (g : Parts) (declared : Named ℕ) (name : List ℕ) (k : ItemKind) (numbering : Numbering) → composition_of numbering (with_import g name k) declared ≡ with_node (composition_of numbering g declared) (imported name) (means numbering g k)
composition_imports g declared name k numbering = added g declared numbering (plain_node (import name) k)

-- a definition is exported too
pub composition_defines : (g : Parts) (declared : Named ℕ) (name : List ℕ) (k : ItemKind) (numbering : Numbering)
    → composition_of numbering (with_definition g name k) declared ≡ with_export (with_node (composition_of numbering g declared) definition (means numbering g k)) name (next_of (composition_of numbering g declared))
composition_defines g declared name k numbering =
    ap (λ (ns : List Node). record { nodes = ns; exports = with_named g.exports name (length g.nodes); declared = declared; resources = declared_count g }) (map_push (node_of numbering g) g.nodes (plain_node defined k))
    ∙ ap (λ (n : ℕ). record { nodes = map (node_of numbering g) g.nodes ++ node_of numbering g (plain_node defined k) ∷ []; exports = with_named g.exports name n; declared = declared; resources = declared_count g }) (sym (next_is numbering g declared))

pub composition_exports : (g : Parts) (declared : Named ℕ) (name : List ℕ) (node : ℕ) (numbering : Numbering) → composition_of numbering (export_too g name node) declared ≡ with_export (composition_of numbering g declared) name node
composition_exports g declared name node numbering = refl

-- ---- instances

-- the graph with one more instance, which has these arguments
abbrev pub instance_with : Parts → ℕ → ItemKind → Named ℕ → Parts
instance_with g p k arguments = record g { nodes = g.nodes ++ record { form = instantiation p arguments; kind = k; name = None } ∷ [] }

pub instance_without : (g : Parts) (p : ℕ) (k : ItemKind) → with_instantiation g p k ≡ instance_with g p k []
instance_without g p k = refl

set_last : {X : Type 0} (xs : List X) (x y : X) → slice_set (xs ++ x ∷ []) (length xs) y ≡ xs ++ y ∷ []
set_last [] x y = refl
set_last {X} (z ∷ xs) x y = ap (λ (l : List X). z ∷ l) (set_last xs x y)

-- one more argument
pub instance_given : (g : Parts) (p : ℕ) (k : ItemKind) (arguments : Named ℕ) (name : List ℕ) (value : ℕ) → with_argument (instance_with g p k arguments) (length g.nodes) name value ≡ instance_with g p k (with_named arguments name value)
instance_given g p k arguments name value =
    let last : GraphNode = record { form = instantiation p arguments; kind = k; name = None } in
    ap (λ (o : Option GraphNode). record g { nodes = elim o [ None ↦ g.nodes ++ last ∷ [] | Some n ↦ slice_set (g.nodes ++ last ∷ []) (length g.nodes) (record n { form = given_too n.form name value }) ] }) (get_last g.nodes last)
    ∙ ap (λ (ns : List GraphNode). record g { nodes = ns }) (set_last g.nodes last (record { form = instantiation p (with_named arguments name value); kind = k; name = None }))

pub composition_instance : (g : Parts) (declared : Named ℕ) (p : ℕ) (k : ItemKind) (arguments : Named ℕ) (numbering : Numbering) (of : HeldPackage) → slice_get g.packages p ≡ Some of
    → composition_of numbering (instance_with g p k arguments) declared ≡ with_instance (composition_of numbering g declared) of.key (means numbering g k) arguments
composition_instance g declared p k arguments numbering of held =
    added g declared numbering (record { form = instantiation p arguments; kind = k; name = None })
    ∙ ap (λ (o : Option HeldPackage). record (composition_of numbering g declared) { nodes = map (node_of numbering g) g.nodes ++ record { form = instance_form o; kind = means numbering g k; name = None; arguments = arguments } ∷ [] }) held

-- ---- names of nodes

set_same : {X : Type 0} (xs : List X) (i : ℕ) (x : X) → slice_get xs i ≡ Some x → slice_set xs i x ≡ xs
set_same [] i x h = absurd (cc)
set_same {X} (z ∷ xs) zero x h = (let same : z ≡ x = cc in ap (λ (y : X). y ∷ xs) (sym same))
set_same {X} (z ∷ xs) (suc i) x h = ap (λ (l : List X). z ∷ l) (set_same xs i x h)

-- the nodes of the composition, where one gets a name if it had none
named_in : (numbering : Numbering) (g : Parts) (node : ℕ) (n : GraphNode) (name : List ℕ) → slice_get g.nodes node ≡ Some n
    → named_at (map (node_of numbering g) g.nodes) node name ≡ slice_set (map (node_of numbering g) g.nodes) node (record (node_of numbering g n) { name = first_name n.name name })
named_in numbering g node n name at =
    ap (λ (o : Option Node). elim o [ None ↦ map (node_of numbering g) g.nodes | Some x ↦ slice_set (map (node_of numbering g) g.nodes) node (record x { name = first_name x.name name }) ])
    (slice_get-map (node_of numbering g) g.nodes node ∙ ap (option_map (node_of numbering g)) at)

pub node_named : (numbering : Numbering) (g : Parts) (declared : Named ℕ) (node : ℕ) (n : GraphNode) (name : List ℕ) → slice_get g.nodes node ≡ Some n → n.name ≡ None
    → composition_of numbering (with_name g node name) declared ≡ record (composition_of numbering g declared) { nodes = named_at (composition_of numbering g declared).nodes node name }
node_named numbering g declared node n name at unnamed =
    ap (λ (o : Option GraphNode). composition_of numbering (record g { nodes = elim o [ None ↦ g.nodes | Some x ↦ slice_set g.nodes node (record x { name = Some name }) ] }) declared) at
    ∙ ap (λ (ns : List Node). record (composition_of numbering g declared) { nodes = ns })
    (map_set (node_of numbering g) g.nodes node (record n { name = Some name })
    ∙ ap (λ (o : Option (List ℕ)). slice_set (map (node_of numbering g) g.nodes) node (record (node_of numbering g n) { name = first_name o name })) (sym unnamed)
    ∙ sym (named_in numbering g node n name at))

pub name_kept : (numbering : Numbering) (g : Parts) (declared : Named ℕ) (node : ℕ) (n : GraphNode) (name old : List ℕ) → slice_get g.nodes node ≡ Some n → n.name ≡ Some old
    → composition_of numbering g declared ≡ record (composition_of numbering g declared) { nodes = named_at (composition_of numbering g declared).nodes node name }
name_kept numbering g declared node n name old at has =
    let same : record (node_of numbering g n) { name = first_name n.name name } ≡ node_of numbering g n =
    ap (λ (o : Option (List ℕ)). record (node_of numbering g n) { name = first_name o name }) has ∙ ap (λ (o : Option (List ℕ)). record (node_of numbering g n) { name = o }) (sym has) in
    ap (λ (ns : List Node). record (composition_of numbering g declared) { nodes = ns })
    (sym (named_in numbering g node n name at
    ∙ ap (slice_set (map (node_of numbering g) g.nodes) node) same
    ∙ set_same (map (node_of numbering g) g.nodes) node (node_of numbering g n) (slice_get-map (node_of numbering g) g.nodes node ∙ ap (option_map (node_of numbering g)) at)))

-- ---- aliases

same_alias : (ps : List HeldPackage) (node : ℕ) (name : List ℕ) (f : Form) → is_alias_of node name (form_in ps f) ≡ is_alias_in node name f
same_alias ps node name (import x) = refl
same_alias ps node name defined = refl
same_alias ps node name (alias n e) = refl
same_alias ps node name (instantiation p arguments) = go (slice_get ps p)
  where
    go : (o : Option HeldPackage) → is_alias_of node name (instance_form o) ≡ is_alias_in node name (instantiation p arguments)
    go None = refl
    go (Some h) = refl

-- an alias is in the composition where it is in the graph
pub alias_there : (numbering : Numbering) (g : Parts) (declared : Named ℕ) (node : ℕ) (name : List ℕ) → alias_in (composition_of numbering g declared) node name ≡ alias_in_nodes g.nodes node name
alias_there numbering g declared node name =
    position_map (λ (n : Node). is_alias_of node name n.form) (node_of numbering g) g.nodes
    ∙ (λ i. position (λ (n : GraphNode). same_alias g.packages node name n.form i) g.nodes)

pub alias_numbered : (numbering : Numbering) (g : Parts) (declared : Named ℕ) (node : ℕ) (name : List ℕ) (n : ℕ) → unwrap_or (alias_in_nodes g.nodes node name) (length g.nodes) ≡ n → n ≡ alias_number (composition_of numbering g declared) node name
alias_numbered numbering g declared node name n is =
    sym is ∙ ap (λ (o : Option ℕ). unwrap_or o (length g.nodes)) (sym (alias_there numbering g declared node name))
    ∙ ap (unwrap_or (alias_in (composition_of numbering g declared) node name)) (sym (next_is numbering g declared))

aliased_there : (old new : Parts) (node : ℕ) (name : List ℕ) (k : ItemKind) (declared : Named ℕ) (numbering : Numbering) (o : Option ℕ) → alias_in_nodes old.nodes node name ≡ o → export_kind old node name ≡ Some k → aliased_by o old new node name
    → composition_of numbering new declared ≡ elim o as (λ _. Composition) [ None ↦ with_node (composition_of numbering old declared) (aliased node name) (means numbering old k) | Some n ↦ composition_of numbering old declared ]
aliased_there old new node name k declared numbering None is exported h =
    let alias_added : new ≡ alias_too old node name k = rw exported at h in
    ap (λ (g : Parts). composition_of numbering g declared) alias_added ∙ added old declared numbering (plain_node (alias node name) k)
aliased_there old new node name k declared numbering (Some n) is exported h = ap (λ (g : Parts). composition_of numbering g declared) h

-- the alias exists, or is the next node
pub composition_aliases : (old new : Parts) (node : ℕ) (name : List ℕ) (k : ItemKind) → export_kind old node name ≡ Some k → IsAliased old new node name
    → (numbering : Numbering) (declared : Named ℕ) → composition_of numbering new declared ≡ with_alias (composition_of numbering old declared) node name (means numbering old k)
composition_aliases old new node name k exported h numbering declared =
    aliased_there old new node name k declared numbering (alias_in_nodes old.nodes node name) refl exported h
    ∙ ap (λ (o : Option ℕ). elim o as (λ _. Composition) [ None ↦ with_node (composition_of numbering old declared) (aliased node name) (means numbering old k) | Some n ↦ composition_of numbering old declared ]) (sym (alias_there numbering old declared node name))

-- ---- a graph with more nodes

kind_kept : (ns more : List GraphNode) (n : ℕ) (k : ItemKind) → kind_in ns n ≡ Some k → kind_in (ns ++ more) n ≡ Some k
kind_kept ns more n k h = go (slice_get ns n) refl h
  where
    go : (o : Option GraphNode) → slice_get ns n ≡ o → option_map (λ (x : GraphNode). x.kind) o ≡ Some k → kind_in (ns ++ more) n ≡ Some k
    go None is h = absurd (cc)
    go (Some x) is h = ap (option_map (λ (y : GraphNode). y.kind)) (get_kept ns more n x is) ∙ h

pub grows_none : (g : Parts) → NodesStand g → GrowsNodes g g
grows_none g h = record { same = refl; kinds = λ n k is. is; stand = h }

pub grows_on : (a b c : Parts) → GrowsNodes a b → GrowsNodes b c → GrowsNodes a c
grows_on a b c p q = record {
  same = q.same ∙ ap (λ (g : Parts). record g { nodes = c.nodes }) p.same;
  kinds = λ n k is. q.kinds n k (p.kinds n k is);
  stand = q.stand;
}

pub grows_more : (old new : Parts) (more : List GraphNode) → new ≡ record old { nodes = old.nodes ++ more } → NodesStand new → GrowsNodes old new
grows_more old new more is h = record {
  same = is ∙ ap (λ (ns : List GraphNode). record old { nodes = ns }) (sym (ap (λ (g : Parts). g.nodes) is));
  kinds = λ n k at. ap (λ (g : Parts). kind_in g.nodes n) is ∙ kind_kept old.nodes more n k at;
  stand = h;
}

pub grows_named : (old new : Parts) (node : ℕ) (name : List ℕ) → new ≡ with_name old node name → NodesStand new → GrowsNodes old new
grows_named old new node name is h = record {
  same = is ∙ ap (λ (ns : List GraphNode). record old { nodes = ns }) (sym (ap (λ (g : Parts). g.nodes) is));
  kinds = λ n k at. ap (λ (g : Parts). kind_in g.nodes n) is ∙ kinds_named (slice_get old.nodes node) refl n ∙ at;
  stand = h;
}
  where
    kinds_named : (o : Option GraphNode) → slice_get old.nodes node ≡ o → (n : ℕ) → kind_in (elim o as (λ _. List GraphNode) [ None ↦ old.nodes | Some x ↦ slice_set old.nodes node (record x { name = Some name }) ]) n ≡ kind_in old.nodes n
    kinds_named None at n = refl
    kinds_named (Some x) at n = set_read (λ (y : GraphNode). y.kind) old.nodes node x (record x { name = Some name }) n at refl

-- a node that had a place keeps it
pub still_there : (old new : Parts) (n : ℕ) → GrowsNodes old new → n < length old.nodes → n < length new.nodes
still_there old new n g h = go (slice_get new.nodes n) refl (g.kinds n _ (ap (option_map (λ (x : GraphNode). x.kind)) (slice_there old.nodes n h).1))
  where
    slice_there : {X : Type 0} (xs : List X) (i : ℕ) → i < length xs → (x : X) × (slice_get xs i ≡ Some x)
    slice_there [] i h = absurd (omega (arith, h))
    slice_there (x ∷ xs) zero h = (x, refl)
    slice_there (x ∷ xs) (suc i) h = slice_there xs i (omega (arith, h))

    go : {k : ItemKind} (o : Option GraphNode) → slice_get new.nodes n ≡ o → option_map (λ (x : GraphNode). x.kind) (slice_get new.nodes n) ≡ Some k → n < length new.nodes
    go None is h = absurd (cc)
    go (Some x) is h = slice_get_within new.nodes n x is

-- ---- one step, by what a call says

pub named_where_none : (old new : Parts) (node : ℕ) (name : List ℕ) (n : GraphNode) → slice_get old.nodes node ≡ Some n → n.name ≡ None → new ≡ with_name old node name → NodesStand new → IsNamed old new node name
named_where_none old new node name n at unnamed is h = record {
  grows = grows_named old new node name is h;
  is = λ numbering declared. ap (λ (g : Parts). composition_of numbering g declared) is ∙ node_named numbering old declared node n name at unnamed;
}

pub named_already : (g : Parts) (node : ℕ) (name old : List ℕ) (n : GraphNode) → slice_get g.nodes node ≡ Some n → n.name ≡ Some old → NodesStand g → IsNamed g g node name
named_already g node name old n at has h = record { grows = grows_none g h; is = λ numbering declared. name_kept numbering g declared node n name old at has }

length-push : {X : Type 0} (xs : List X) (x : X) → length (xs ++ x ∷ []) ≡ suc (length xs)
length-push [] x = refl
length-push (y ∷ xs) x = ap suc (length-push xs x)

-- the same, by what is read of the name
pub already_named : (g : Parts) (node : ℕ) (name : List ℕ) (r : Option (Bor (List ℕ))) → option_map (λ (n : GraphNode). n.name) (slice_get g.nodes node) ≡ Some (option_map (λ (s : Bor (List ℕ)). s.now) r) → is_some r ≡ true → IsSound g → IsNamed g g node name
already_named g node name r read has sound = go (slice_get g.nodes node) refl r read has
  where
    go : (o : Option GraphNode) → slice_get g.nodes node ≡ o → (x : Option (Bor (List ℕ))) → option_map (λ (n : GraphNode). n.name) o ≡ Some (option_map (λ (s : Bor (List ℕ)). s.now) x) → is_some x ≡ true → IsNamed g g node name
    go None at x read has = absurd (cc)
    go (Some n) at None read has = absurd (cc)
    go (Some n) at (Some x) read has = named_already g node name x.now n at (cc) (sound_stands g sound)

pub newly_named : (old new : Parts) (node : ℕ) (name : List ℕ) (r : Option (Bor (List ℕ))) → option_map (λ (n : GraphNode). n.name) (slice_get old.nodes node) ≡ Some (option_map (λ (s : Bor (List ℕ)). s.now) r) → is_some r ≡ false → new ≡ with_name old node name → IsSound new → IsNamed old new node name
newly_named old new node name r read has is sound = go (slice_get old.nodes node) refl r read has
  where
    go : (o : Option GraphNode) → slice_get old.nodes node ≡ o → (x : Option (Bor (List ℕ))) → option_map (λ (n : GraphNode). n.name) o ≡ Some (option_map (λ (s : Bor (List ℕ)). s.now) x) → is_some x ≡ false → IsNamed old new node name
    go None at x read has = absurd (cc)
    go (Some n) at None read has = named_where_none old new node name n at (cc) is (sound_stands new sound)
    go (Some n) at (Some x) read has = absurd (cc)

-- a node has no name where none is read
pub unnamed : (g : Parts) (node : ℕ) (r : Option (Bor (List ℕ))) → option_map (λ (n : GraphNode). n.name) (slice_get g.nodes node) ≡ Some (option_map (λ (s : Bor (List ℕ)). s.now) r) → is_some r ≡ false → option_and_then (λ (n : GraphNode). n.name) (slice_get g.nodes node) ≡ None
unnamed g node r read has = go (slice_get g.nodes node) r read has
  where
    go : (o : Option GraphNode) (x : Option (Bor (List ℕ))) → option_map (λ (n : GraphNode). n.name) o ≡ Some (option_map (λ (s : Bor (List ℕ)). s.now) x) → is_some x ≡ false → option_and_then (λ (n : GraphNode). n.name) o ≡ None
    go None x read has = refl
    go (Some n) None read has = cc
    go (Some n) (Some x) read has = absurd (cc)

pub ruleset node_names = (already_named, newly_named, unnamed)

alias_within : (old new : Parts) (node : ℕ) (name : List ℕ) (k : ItemKind) (n : ℕ) (o : Option ℕ) → alias_in_nodes old.nodes node name ≡ o → export_kind old node name ≡ Some k → aliased_by o old new node name → unwrap_or o (length old.nodes) ≡ n → NodesStand new
    → GrowsNodes old new × (n < length new.nodes)
alias_within old new node name k n None at exported h number stand =
    let is : new ≡ alias_too old node name k = rw exported at h in
    let longer : length new.nodes ≡ suc (length old.nodes) = ap (λ (g : Parts). length g.nodes) is ∙ length-push old.nodes (plain_node (alias node name) k) in
    (grows_more old new (plain_node (alias node name) k ∷ []) is stand, omega (arith, number, longer))
alias_within old new node name k n (Some m) at exported h number stand =
    let same : length new.nodes ≡ length old.nodes = ap (λ (g : Parts). length g.nodes) h in
    (subst (λ (g : Parts). GrowsNodes old g) (sym h) (grows_none old (subst NodesStand h stand)), omega (arith, number, same, (position-Some (λ (x : GraphNode). is_alias_in node name x.form) old.nodes m (plain_node (alias node name) k) at).0))

pub alias_goes : (old new : Parts) (node : ℕ) (name : List ℕ) (k : ItemKind) (n : ℕ) → export_kind old node name ≡ Some k → IsAliased old new node name → unwrap_or (alias_in_nodes old.nodes node name) (length old.nodes) ≡ n → NodesStand new
    → AliasStep old new node name k n
alias_goes old new node name k n exported h number stand =
    let both = alias_within old new node name k n (alias_in_nodes old.nodes node name) refl exported h number stand in
    record {
      grows = both.0;
      there = both.1;
      is = λ numbering declared.
          ap (λ (c : Composition). at c n) (composition_aliases old new node name k exported h numbering declared)
          ∙ ap (λ (m : ℕ). at (with_alias (composition_of numbering old declared) node name (means numbering old k)) m) (alias_numbered numbering old declared node name n number);
    }

-- the same for an export that exists
pub alias_made : (old new : Parts) (node : ℕ) (name : List ℕ) (n : ℕ) → IsAliased old new node name → unwrap_or (alias_in_nodes old.nodes node name) (length old.nodes) ≡ n → IsSound new → IfSome (export_kind old node name) (λ k. AliasStep old new node name k n)
alias_made old new node name n h number sound = go (export_kind old node name) refl
  where
    go : (o : Option ItemKind) → export_kind old node name ≡ o → IfSome o (λ k. AliasStep old new node name k n)
    go None is = tt
    go (Some k) is = alias_goes old new node name k n is h number (sound_stands new sound)
