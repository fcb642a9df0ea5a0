-- Names of nodes, and of imports.
use Rattle.wac_resolution_state.proofs.Common.{◌≡◌, ◌∙◌, ℕ, suc, List, [], ◌∷◌, Option, Some, None, Bool, true, false, cond, Bor, refl, sym, ap, map, is_some, slice_get, option_map, option_and_then, string_bytes, filter_map, bytes_eq, slice_get-map, ItemKind, InterfaceId, Meaning, as_interface, Named, look_up, id_of, Names, NodeId, Parts, means, entry_means, origin_at, EntriesMean, Numbering, HeldPackage, IsSound, imports_from, Node, instance_id, own_name, instance_of, node_at, import_name, alias_name, import_of, imports}
use Rattle.std.specs.Option.{option_or}
use Rattle.wac_graph_types.specs.declared.kind.ItemKind.TheVariants as kinds
use Rattle.wac_graph_types.specs.declared.kind.Sort.TheVariants as sorts
use Rattle.wac_graph_types.specs.declared.entry.Entry.{Entry}
use Rattle.wac_graph_types.specs.declared.entry.Entry.TheVariants as entries
use Rattle.wac_graph_types.specs.declared.entry.Interface.{Interface}
use Rattle.wac_graph_types.specs.Entry.{sort_of}
use Rattle.wac_graph_types.proofs.Parts as parts
use Rattle.wac_graph.specs.Node.{Node as GraphNode, Form, import, definition as defined, alias, instantiation, import_in, source_in}
use Rattle.wac_resolution_state.specs.Instances.{written_id}
use Rattle.wac_resolution_state.specs.Nodes.{form_in, instance_form, node_of, composition_of, kind_in}
use Rattle.wac_resolution_state.proofs.Instances.{no_instance}

-- ---- ids of instances

id_is : (f : ℕ → Meaning) (o : Option Entry) (m : Meaning) (origin : ℕ) → option_map sort_of o ≡ Some sorts.Interface → ((e : Entry) → o ≡ Some e → m ≡ Rattle.wac_graph_types.specs.Shape.entry_over f origin e)
    → id_of m ≡ option_and_then (λ (i : Interface). option_map string_bytes i.id) (option_and_then as_interface o)
id_is f None m origin h law = absurd (cc)
id_is f (Some (entries.Defined d)) m origin h law = absurd (cc)
id_is f (Some (entries.Resource r)) m origin h law = absurd (cc)
id_is f (Some (entries.Func g)) m origin h law = absurd (cc)
id_is f (Some (entries.Interface i)) m origin h law = parts.interface_id f m origin i (law (entries.Interface i) refl)
id_is f (Some (entries.World w)) m origin h law = absurd (cc)

pub interface_id_is : (g : Parts) (i : InterfaceId) → EntriesMean g → Names g.types (kinds.Instance i) → (numbering : Numbering) → id_of (entry_means numbering g i.0) ≡ written_id g.types i.0
interface_id_is g i law named numbering = id_is (entry_means numbering g) (slice_get g.types i.0) (entry_means numbering g i.0) (numbering (origin_at g i.0)) named.1 (λ e at. law numbering i.0 e at)

-- a node whose kind is read
node_there : (g : Parts) (node : ℕ) (k : ItemKind) → kind_in g.nodes node ≡ Some k → (n : GraphNode) × (slice_get g.nodes node ≡ Some n) × (n.kind ≡ k)
node_there g node k h = go (slice_get g.nodes node) refl h
  where
    go : (o : Option GraphNode) → slice_get g.nodes node ≡ o → option_map (λ (x : GraphNode). x.kind) o ≡ Some k → (n : GraphNode) × (slice_get g.nodes node ≡ Some n) × (n.kind ≡ k)
    go None at is = absurd (cc)
    go (Some n) at is = (n, at, (cc))

pub instance_named : (g : Parts) (node : ℕ) (i : InterfaceId) → EntriesMean g → kind_in g.nodes node ≡ Some (kinds.Instance i) → Names g.types (kinds.Instance i)
    → (numbering : Numbering) (declared : Named ℕ) → option_and_then instance_id (node_at (composition_of numbering g declared) node) ≡ written_id g.types i.0
instance_named g node i law kind named numbering declared =
    let n = node_there g node (kinds.Instance i) kind in
    ap (option_and_then instance_id) (slice_get-map (node_of numbering g) g.nodes node ∙ ap (option_map (node_of numbering g)) n.1)
    ∙ ap (λ (k : ItemKind). option_and_then id_of (instance_of (means numbering g k))) n.2
    ∙ interface_id_is g i law named numbering

pub other_unnamed : (g : Parts) (node : ℕ) (k : ItemKind) → kind_in g.nodes node ≡ Some k → ((i : InterfaceId) → k ≡ kinds.Instance i → ⊥)
    → (numbering : Numbering) (declared : Named ℕ) → option_and_then instance_id (node_at (composition_of numbering g declared) node) ≡ None
other_unnamed g node k kind none numbering declared =
    let n = node_there g node k kind in
    ap (option_and_then instance_id) (slice_get-map (node_of numbering g) g.nodes node ∙ ap (option_map (node_of numbering g)) n.1)
    ∙ ap (λ (l : ItemKind). option_and_then id_of (instance_of (means numbering g l))) n.2
    ∙ ap (option_and_then id_of) (no_instance (entry_means numbering g) k none)

-- ---- own names

form_import : (ps : List HeldPackage) (f : Form) → import_name (form_in ps f) ≡ import_in f
form_import ps (import x) = refl
form_import ps defined = refl
form_import ps (alias n e) = refl
form_import ps (instantiation p arguments) = go (slice_get ps p)
  where
    go : (o : Option HeldPackage) → import_name (instance_form o) ≡ None
    go None = refl
    go (Some h) = refl

form_alias : (ps : List HeldPackage) (f : Form) → alias_name (form_in ps f) ≡ option_map (λ s. s.1) (source_in f)
form_alias ps (import x) = refl
form_alias ps defined = refl
form_alias ps (alias n e) = refl
form_alias ps (instantiation p arguments) = go (slice_get ps p)
  where
    go : (o : Option HeldPackage) → alias_name (instance_form o) ≡ None
    go None = refl
    go (Some h) = refl

abbrev OwnName : Parts → ℕ → Option (List ℕ) → Type 0
OwnName g node r = (numbering : Numbering) (declared : Named ℕ) → option_and_then own_name (node_at (composition_of numbering g declared) node) ≡ r

own_is : (g : Parts) (node : ℕ) (n : GraphNode) (a b : Option (List ℕ)) → slice_get g.nodes node ≡ Some n → import_in n.form ≡ a → option_map (λ s. s.1) (source_in n.form) ≡ b → OwnName g node (option_or a b)
own_is g node n a b at is_import is_alias numbering declared =
    ap (option_and_then own_name) (slice_get-map (node_of numbering g) g.nodes node ∙ ap (option_map (node_of numbering g)) at)
    ∙ ap (λ (x : Option (List ℕ)). option_or x (alias_name (form_in g.packages n.form))) (form_import g.packages n.form ∙ is_import)
    ∙ ap (option_or a) (form_alias g.packages n.form ∙ is_alias)

-- by what the calls read
pub name_imported : (g : Parts) (node : ℕ) (r : Option (Bor (List ℕ))) (s : Bor (List ℕ)) → option_map (λ (n : GraphNode). import_in n.form) (slice_get g.nodes node) ≡ Some (option_map (λ (t : Bor (List ℕ)). t.now) r) → r ≡ Some s → OwnName g node (Some s.now)
name_imported g node r s read is = go (slice_get g.nodes node) refl (read ∙ ap (λ (x : Option (Bor (List ℕ))). Some (option_map (λ (t : Bor (List ℕ)). t.now) x)) is)
  where
    go : (o : Option GraphNode) → slice_get g.nodes node ≡ o → option_map (λ (n : GraphNode). import_in n.form) o ≡ Some (Some s.now) → OwnName g node (Some s.now)
    go None at h = absurd (cc)
    go (Some n) at h = own_is g node n (Some s.now) (option_map (λ t. t.1) (source_in n.form)) at (cc) refl

pub name_aliased : (g : Parts) (node : ℕ) (r : Option (Bor (List ℕ))) (a : Option (NodeId × Bor (List ℕ))) → option_map (λ (n : GraphNode). import_in n.form) (slice_get g.nodes node) ≡ Some (option_map (λ (t : Bor (List ℕ)). t.now) r) → r ≡ None
    → option_map (λ (n : GraphNode). source_in n.form) (slice_get g.nodes node) ≡ Some (option_map (λ (t : NodeId × Bor (List ℕ)). (t.0.0, t.1.now)) a) → OwnName g node (option_map (λ (t : NodeId × Bor (List ℕ)). t.1.now) a)
name_aliased g node r a read none source = go (slice_get g.nodes node) refl (read ∙ ap (λ (x : Option (Bor (List ℕ))). Some (option_map (λ (t : Bor (List ℕ)). t.now) x)) none) a source
  where
    go : (o : Option GraphNode) → slice_get g.nodes node ≡ o → option_map (λ (n : GraphNode). import_in n.form) o ≡ Some None → (x : Option (NodeId × Bor (List ℕ)))
        → option_map (λ (n : GraphNode). source_in n.form) o ≡ Some (option_map (λ (t : NodeId × Bor (List ℕ)). (t.0.0, t.1.now)) x) → OwnName g node (option_map (λ (t : NodeId × Bor (List ℕ)). t.1.now) x)
    go None at h x from = absurd (cc)
    go (Some n) at h None from = own_is g node n None None at (cc) (let same : source_in n.form ≡ None = cc in ap (option_map (λ (s : ℕ × List ℕ). s.1)) same)
    go (Some n) at h (Some t) from = own_is g node n None (Some t.1.now) at (cc) (let same : source_in n.form ≡ Some (t.0.0, t.1.now) = cc in ap (option_map (λ (s : ℕ × List ℕ). s.1)) same)

-- ---- imports

cons_some : (name x : List ℕ) (m : Meaning) (n : ℕ) (ms : Named Meaning) (ns : Named ℕ) → is_some (look_up name ms) ≡ is_some (look_up name ns) → is_some (look_up name ((x, m) ∷ ms)) ≡ is_some (look_up name ((x, n) ∷ ns))
cons_some name x m n ms ns later = go (bytes_eq name x)
  where
    go : (b : Bool) → is_some (cond b (Some m) (look_up name ms)) ≡ is_some (cond b (Some n) (look_up name ns))
    go true = refl
    go false = later

imports_there : (numbering : Numbering) (g : Parts) (name : List ℕ) (i : ℕ) (ns : List GraphNode) → is_some (look_up name (filter_map import_of (map (node_of numbering g) ns))) ≡ is_some (look_up name (imports_from i ns))
imports_there numbering g name i [] = refl
imports_there numbering g name i (n ∷ ns) = go n.form (imports_there numbering g name (suc i) ns)
  where
    rest : List Node
    rest = map (node_of numbering g) ns

    go : (f : Form) → is_some (look_up name (filter_map import_of rest)) ≡ is_some (look_up name (imports_from (suc i) ns))
        → is_some (look_up name (filter_map import_of (node_of numbering g (record { form = f; kind = n.kind; name = n.name }) ∷ rest))) ≡ is_some (look_up name (imports_from i (record { form = f; kind = n.kind; name = n.name } ∷ ns)))
    go (import x) later = cons_some name x (means numbering g n.kind) i (filter_map import_of rest) (imports_from (suc i) ns) later
    go defined later = later
    go (alias m e) later = later
    go (instantiation p arguments) later = packaged (slice_get g.packages p)
      where
        packaged : (o : Option HeldPackage) → is_some (look_up name (filter_map import_of (record { form = instance_form o; kind = means numbering g n.kind; name = n.name; arguments = arguments } ∷ rest))) ≡ is_some (look_up name (imports_from (suc i) ns))
        packaged None = later
        packaged (Some h) = later

-- a name is imported in the composition where it is in the graph
pub imported_where : (numbering : Numbering) (g : Parts) (declared : Named ℕ) (name : List ℕ) → IsSound g → is_some (look_up name (imports (composition_of numbering g declared))) ≡ is_some (look_up name g.imports)
imported_where numbering g declared name sound = imports_there numbering g name 0 g.nodes ∙ ap (λ (l : Named ℕ). is_some (look_up name l)) (sym sound.imports)
