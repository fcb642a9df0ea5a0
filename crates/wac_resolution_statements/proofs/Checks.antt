-- Names that are tested.
use Rattle.wac_resolution_statements.proofs.Common.{◌≡◌, ◌∙◌, ℕ, zero, suc, List, [], ◌∷◌, Option, Some, None, Bool, true, false, cond, refl, sym, ap, subst, length, ◌<◌, slice_get, option_map, option_and_then, IfSome, IsSome, AllByRecursion, bytes_eq, slice_get-map, Span, ItemKind, Named, look_up, IsFresh, StandsFor, NodeId, Parts, means, entry_means, Numbering, Error, export_conflict, duplicate_extern_name, IsExportConflict, IsExportedAlready, names_of, node_at, is_definition, Places, if_definition, definition_bound, Bindings, values_of, Root, instance_form, form_in, node_of, composition_of, kind_in, Stands, NodesStand, numbers_of, composed, places, Agrees, bound_there, number_fresh, place_fresh, fresh_read}
use Rattle.wac_graph_types.specs.declared.kind.ExternKind.TheVariants as sides
use Rattle.wac_graph_types.specs.Words as words
use Rattle.wac_graph_types.proofs.Shapes.{word_is}
use Rattle.wac_graph.specs.declared.node.NodeKind.{NodeKind}
use Rattle.wac_graph.specs.declared.node.NodeKind.TheVariants as nodes
use Rattle.wac_graph.specs.Package.{HeldPackage}
use Rattle.wac_graph.specs.Node.{Node as GraphNode, Form, import, definition, alias, instantiation, package_in, Sort, sort_in, sort_of, defined}
use Rattle.wac_resolution_state.proofs.Bound.{read_found}
use Rattle.wac_resolution_statements.specs.declared.externs.Externs.{Externs}
use Rattle.wac_resolution_statements.specs.Externs.{exported_in, ArePlaced}

-- ---- lists of the same names

-- what denotes something in one denotes something in the other
pub stands_too : {X Y : Type 0} (name : List ℕ) (xs : Named X) (ys : Named Y) (x : X) → names_of xs ≡ names_of ys → StandsFor xs name x → (y : Y) × StandsFor ys name y
stands_too name [] [] x e is = absurd (cc is)
stands_too name [] (y ∷ ys) x e is = absurd (cc is)
stands_too name (p ∷ ps) [] x e is = absurd (cc e)
stands_too {X} {Y} name (p ∷ ps) (y ∷ ys) x e is =
    let first : p.0 ≡ y.0 = cc e in
    let rest : names_of ps ≡ names_of ys = cc e in
    go (bytes_eq name p.0) (sym (ap (bytes_eq name) first)) is (stands_too name ps ys x rest)
  where
    go : (b : Bool) → bytes_eq name y.0 ≡ b → cond b (Some p.1) (look_up name ps) ≡ Some x → (StandsFor ps name x → (z : Y) × StandsFor ys name z) → (z : Y) × (cond (bytes_eq name y.0) (Some y.1) (look_up name ys) ≡ Some z)
    go true f g later = (y.1, ap (λ (c : Bool). cond c (Some y.1) (look_up name ys)) f)
    go false f g later = let r = later g in (r.0, ap (λ (c : Bool). cond c (Some y.1) (look_up name ys)) f ∙ r.1)

pub fresh_too : {X Y : Type 0} (name : List ℕ) (xs : Named X) (ys : Named Y) → names_of xs ≡ names_of ys → IsFresh name xs → IsFresh name ys
fresh_too {X} {Y} name xs ys e is = go (look_up name ys) refl
  where
    go : (o : Option Y) → look_up name ys ≡ o → o ≡ None
    go None found = refl
    go (Some y) found = (let r = stands_too name ys xs y (sym e) found in absurd (cc (sym is ∙ r.1)))

-- ---- definitions

node_stands : (g : Parts) (ns : List GraphNode) (i : ℕ) (x : GraphNode) → AllByRecursion (Stands g) ns → slice_get ns i ≡ Some x → Stands g x
node_stands g [] i x h is = absurd (cc is)
node_stands g (y ∷ ns) zero x h is = (let same : y ≡ x = cc is in subst (Stands g) same h.0)
node_stands g (y ∷ ns) (suc i) x h is = node_stands g ns i x h.1 is

number_found : (all : Bindings NodeId) (name : List ℕ) (n : NodeId) → look_up name (values_of all) ≡ Some n → look_up name (numbers_of all) ≡ Some n.0
number_found all name n is = read_found (λ (b : Span × NodeId). b.1.0) name all ∙ go (look_up name all) (sym (read_found (λ (b : Span × NodeId). b.1) name all) ∙ is)
  where
    go : (o : Option (Span × NodeId)) → option_map (λ (b : Span × NodeId). b.1) o ≡ Some n → option_map (λ (b : Span × NodeId). b.1.0) o ≡ Some n.0
    go None h = absurd (cc)
    go (Some b) h = (let same : b.1 ≡ n = cc in ap (λ (m : NodeId). Some m.0) same)

-- the node to which a name is bound exists
pub node_there : (g : Parts) (root : Root) (name : List ℕ) (n : NodeId) → Agrees g root → look_up name (values_of root.nodes) ≡ Some n → n.0 < length g.nodes
node_there g root name n h is = bound_there g root name n.0 h (number_found root.nodes name n is)

pub is_definition_sort : (k : NodeKind) → sort_of k ≡ defined → k ≡ nodes.Definition
is_definition_sort (nodes.Import name) h = absurd (cc h)
is_definition_sort nodes.Definition h = refl
is_definition_sort nodes.Alias h = absurd (cc h)
is_definition_sort (nodes.Instantiation p) h = absurd (cc h)

-- what a name is bound to
bound_to : (numbering : Numbering) (g : Parts) (root : Root) (name : List ℕ) (n : NodeId) (x : GraphNode) → look_up name (values_of root.nodes) ≡ Some n → slice_get g.nodes n.0 ≡ Some x
    → definition_bound (composed numbering g root) name ≡ if_definition (node_of numbering g x)
bound_to numbering g root name n x is at =
    ap (λ (o : Option ℕ). option_and_then if_definition (option_and_then (node_at (composed numbering g root)) o)) (number_found root.nodes name n is)
    ∙ ap (option_and_then if_definition) (slice_get-map (node_of numbering g) g.nodes n.0 ∙ ap (option_map (node_of numbering g)) at)

defined_form : (ps : List HeldPackage) (f : Form) → sort_in f ≡ defined → is_definition (form_in ps f) ≡ true
defined_form ps (import x) h = absurd (cc)
defined_form ps definition h = refl
defined_form ps (alias n e) h = absurd (cc)
defined_form ps (instantiation p arguments) h = absurd (cc)

other_form : (ps : List HeldPackage) (f : Form) → IfSome (package_in f) (λ p. IsSome (slice_get ps p)) → (sort_in f ≡ defined → ⊥) → is_definition (form_in ps f) ≡ false
other_form ps (import x) held h = refl
other_form ps definition held h = absurd (h refl)
other_form ps (alias n e) held h = refl
other_form ps (instantiation p arguments) held h = go (slice_get ps p) held
  where
    go : (o : Option HeldPackage) → IsSome o → is_definition (instance_form o) ≡ false
    go None there = absurd (cc there)
    go (Some x) there = refl

pub defined_here : (g : Parts) (root : Root) (name : List ℕ) (n : NodeId) (s : Sort) (k : ItemKind) → look_up name (values_of root.nodes) ≡ Some n → option_map (λ (x : GraphNode). sort_in x.form) (slice_get g.nodes n.0) ≡ Some s → s ≡ defined
    → kind_in g.nodes n.0 ≡ Some k → (numbering : Numbering) → Some (means numbering g k) ≡ definition_bound (composed numbering g root) name
defined_here g root name n s k is read sort kind numbering = go (slice_get g.nodes n.0) refl read kind
  where
    go : (o : Option GraphNode) → slice_get g.nodes n.0 ≡ o → option_map (λ (x : GraphNode). sort_in x.form) o ≡ Some s → option_map (λ (x : GraphNode). x.kind) o ≡ Some k → Some (means numbering g k) ≡ definition_bound (composed numbering g root) name
    go None at read kind = absurd (cc read)
    go (Some x) at read kind =
        let here : sort_in x.form ≡ s = cc read in
        let same : x.kind ≡ k = cc kind in
        sym (bound_to numbering g root name n x is at
        ∙ ap (λ (b : Bool). cond b (Some (means numbering g x.kind)) None) (defined_form g.packages x.form (here ∙ sort))
        ∙ ap (λ (l : ItemKind). Some (means numbering g l)) same)

pub not_defined : (g : Parts) (root : Root) (name : List ℕ) (n : NodeId) (s : Sort) → NodesStand g → look_up name (values_of root.nodes) ≡ Some n → option_map (λ (x : GraphNode). sort_in x.form) (slice_get g.nodes n.0) ≡ Some s → (s ≡ defined → ⊥)
    → (numbering : Numbering) → None ≡ definition_bound (composed numbering g root) name
not_defined g root name n s stand is read other numbering = go (slice_get g.nodes n.0) refl read
  where
    go : (o : Option GraphNode) → slice_get g.nodes n.0 ≡ o → option_map (λ (x : GraphNode). sort_in x.form) o ≡ Some s → None ≡ definition_bound (composed numbering g root) name
    go None at read = absurd (cc read)
    go (Some x) at read =
        let here : sort_in x.form ≡ s = cc read in
        sym (bound_to numbering g root name n x is at
        ∙ ap (λ (b : Bool). cond b (Some (means numbering g x.kind)) None) (other_form g.packages x.form (node_stands g g.nodes n.0 x stand at).held (λ h. other (sym here ∙ h))))

none_bound : (numbering : Numbering) (g : Parts) (root : Root) (name : List ℕ) → IsFresh name (numbers_of root.nodes) → None ≡ definition_bound (composed numbering g root) name
none_bound numbering g root name is = sym (ap (λ (o : Option ℕ). option_and_then if_definition (option_and_then (node_at (composed numbering g root)) o)) is)

pub unbound : (g : Parts) (root : Root) (name : List ℕ) → look_up name (values_of root.nodes) ≡ None → (numbering : Numbering) → None ≡ definition_bound (composed numbering g root) name
unbound g root name is numbering = none_bound numbering g root name (number_fresh root name is)

pub unplaced : (g : Parts) (root : Root) (name : List ℕ) → look_up name (places root) ≡ None → (numbering : Numbering) → None ≡ definition_bound (composed numbering g root) name
unplaced g root name is numbering = none_bound numbering g root name (fresh_read (λ (b : Span × NodeId). b.1.0) root.nodes name (place_fresh root name is))

-- ---- what is reported

pub conflict_is : (g : Parts) (root : Root) (name : List ℕ) (span : Span) (help : Option (List ℕ)) (k : ItemKind) (previous : Span) (word : List ℕ) (e : Error) → ((numbering : Numbering) → Some (means numbering g k) ≡ definition_bound (composed numbering g root) name)
    → StandsFor (places root) name previous → word ≡ words.described k → e ≡ export_conflict name word span previous help
    → (numbering : Numbering) (all : Places) → all.bound ≡ places root → IsExportConflict (composed numbering g root) all name span help e
conflict_is g root name span help k previous word e bound place is error_is numbering all same = record {
  kind = means numbering g k;
  definition = previous;
  bound = sym (bound numbering);
  place = ap (look_up name) same ∙ place;
  error = error_is ∙ ap (λ (w : List ℕ). export_conflict name w span previous help) (is ∙ sym (word_is (entry_means numbering g) k));
}

pub exported_already : (g : Parts) (x : Externs) (name : List ℕ) (span : Span) (help : Option (List ℕ)) (previous : Span) (e : Error) → ArePlaced g x → look_up name (exported_in x) ≡ Some previous → e ≡ duplicate_extern_name sides.Export name span previous help
    → (numbering : Numbering) (declared : Named ℕ) (all : Places) → all.exported ≡ exported_in x → IsExportedAlready (composition_of numbering g declared) all name span help e
exported_already g x name span help previous e placed is error_is numbering declared all same =
    let there = stands_too name (exported_in x) g.exports previous placed.exported is in
    (there.0, previous, there.1, ap (look_up name) same ∙ is, error_is)

pub unexported_yet : (g : Parts) (x : Externs) (name : List ℕ) → ArePlaced g x → look_up name (exported_in x) ≡ None → IsFresh name g.exports
unexported_yet g x name placed is = fresh_too name (exported_in x) g.exports placed.exported is
