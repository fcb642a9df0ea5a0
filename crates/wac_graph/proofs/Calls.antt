-- What is read of a graph in which a node was named, given an argument, or added.
use Rattle.wac_graph.proofs.Common.{◌≡◌, ◌∙◌, ◌<◌, ◌+◌, ℕ, zero, suc, Option, Some, None, List, [], ◌∷◌, ◌++◌, length, refl, sym, ap, arith, Bool, true, false, cond, map, slice_get, slice_set, option_map, option_and_then, nat_lt, not, IsSome, position, position_or_len, nat_tests, ItemKind, instance_exports, Named, look_up, with_named, IsFresh, none_within}
use Rattle.wac_graph.specs.Node.{Node, Form, import, definition, alias, instantiation, package_in, arguments_in, is_alias_of}
use Rattle.wac_graph.specs.Graph.{Parts, plain_node, changed, given_too, with_name, with_argument, with_instantiation, export_kind, import_kind, parameter_kind, package_of, arguments_of, alias_in}
use Rattle.wac_graph.proofs.Lists.{get_last, set_here, set_other, set_read, found_last, found_other}

-- ---- the first that passes

pub first_of : {X : Type 0} (p : X → Bool) (x : X) (xs : List X) → position p (x ∷ xs) ≡ cond (p x) (Some 0) (option_map suc (position p xs))
first_of p x xs = go (p x)
  where
    next : (a n : ℕ) → nat_lt (1 + a) (suc n) ≡ nat_lt a n
    next a n = grind (arith, nat_tests)

    step : (a n : ℕ) → cond (nat_lt (1 + a) (suc n)) (Some (1 + a)) None ≡ option_map suc (cond (nat_lt a n) (Some a) None)
    step a n = ap (λ (b : Bool). cond b (Some (1 + a)) None) (next a n) ∙ by (nat_lt a n)
      where
        by : (b : Bool) → cond b (Some (1 + a)) None ≡ option_map suc (cond b (Some a) None)
        by true = (let more : 1 + a ≡ suc a = omega arith in ap Some more)
        by false = refl

    go : (b : Bool) → cond (nat_lt (cond (not b) (1 + position_or_len p xs) 0) (suc (length xs))) (Some (cond (not b) (1 + position_or_len p xs) 0)) None ≡ cond b (Some 0) (option_map suc (position p xs))
    go true = (let first : nat_lt 0 (suc (length xs)) ≡ true = grind (arith, nat_tests) in ap (λ (b : Bool). cond b (Some 0) None) first)
    go false = step (position_or_len p xs) (length xs)

pub position_more : {X : Type 0} (p : X → Bool) (xs : List X) (x : X) → p x ≡ false → position p (xs ++ x ∷ []) ≡ position p xs
position_more p [] x none = first_of p x [] ∙ ap (λ (b : Bool). cond b (Some 0) None) none
position_more p (y ∷ xs) x none =
    first_of p y (xs ++ x ∷ []) ∙ ap (λ (o : Option ℕ). cond (p y) (Some 0) (option_map suc o)) (position_more p xs x none) ∙ sym (first_of p y xs)

pub position_set : {X : Type 0} (p : X → Bool) (xs : List X) (i : ℕ) (x y : X) → slice_get xs i ≡ Some x → p y ≡ p x → position p (slice_set xs i y) ≡ position p xs
position_set p [] i x y is same = absurd (cc)
position_set p (z ∷ xs) zero x y is same =
    let here : x ≡ z = cc in
    first_of p y xs ∙ ap (λ (b : Bool). cond b (Some 0) (option_map suc (position p xs))) (same ∙ ap p here) ∙ sym (first_of p z xs)
position_set p (z ∷ xs) (suc i) x y is same =
    first_of p z (slice_set xs i y) ∙ ap (λ (o : Option ℕ). cond (p z) (Some 0) (option_map suc o)) (position_set p xs i x y is same) ∙ sym (first_of p z xs)

pub position_map : {X Y : Type 0} (p : Y → Bool) (f : X → Y) (xs : List X) → position p (map f xs) ≡ position (λ x. p (f x)) xs
position_map p f [] = refl
position_map p f (x ∷ xs) =
    first_of p (f x) (map f xs) ∙ ap (λ (o : Option ℕ). cond (p (f x)) (Some 0) (option_map suc o)) (position_map p f xs) ∙ sym (first_of (λ z. p (f z)) x xs)

-- ---- a node that is changed in its place

-- a reading of nodes that the change keeps
changed_read : {X : Type 0} (read : Node → X) (g : Parts) (node : ℕ) (f : Node → Node) → ((n : Node) → read (f n) ≡ read n) → (i : ℕ) → option_map read (slice_get (changed g node f).nodes i) ≡ option_map read (slice_get g.nodes i)
changed_read {X} read g node f same i = go (slice_get g.nodes node) refl
  where
    go : (o : Option Node) → slice_get g.nodes node ≡ o → option_map read (slice_get (elim o [ None ↦ g.nodes | Some n ↦ slice_set g.nodes node (f n) ]) i) ≡ option_map read (slice_get g.nodes i)
    go None is = refl
    go (Some n) is = set_read read g.nodes node n (f n) i is (same n)

-- each alias stays where it is
changed_alias : (g : Parts) (node : ℕ) (f : Node → Node) → ((n : Node) (m : ℕ) (export : List ℕ) → is_alias_of m export (f n).form ≡ is_alias_of m export n.form) → (m : ℕ) (export : List ℕ) → alias_in (changed g node f).nodes m export ≡ alias_in g.nodes m export
changed_alias g node f same m export = go (slice_get g.nodes node) refl
  where
    go : (o : Option Node) → slice_get g.nodes node ≡ o → alias_in (elim o [ None ↦ g.nodes | Some n ↦ slice_set g.nodes node (f n) ]) m export ≡ alias_in g.nodes m export
    go None is = refl
    go (Some n) is = position_set (λ (x : Node). is_alias_of m export x.form) g.nodes node n (f n) is (same n m export)

given_to : Option Node → Named ℕ
given_to o = elim o [ None ↦ [] | Some n ↦ arguments_in n.form ]

given_by : (o : Option Node) → given_to o ≡ elim (option_map (λ (n : Node). arguments_in n.form) o) [ None ↦ [] | Some l ↦ l ]
unfolding given_to
given_by None = refl
given_by (Some n) = refl

-- ---- a name

pub name_is : (g : Parts) (node : ℕ) (name : List ℕ) → node < length g.nodes → option_and_then (λ (n : Node). n.name) (slice_get (with_name g node name).nodes node) ≡ Some name
name_is g node name there = go (slice_get g.nodes node) refl
  where
    go : (o : Option Node) → slice_get g.nodes node ≡ o → option_and_then (λ (n : Node). n.name) (slice_get (elim o [ None ↦ g.nodes | Some n ↦ slice_set g.nodes node (record n { name = Some name }) ]) node) ≡ Some name
    go None is = absurd (none_within g.nodes node is there)
    go (Some n) is = ap (option_and_then (λ (x : Node). x.name)) (set_here g.nodes node n (record n { name = Some name }) is)

pub name_arguments : (g : Parts) (node : ℕ) (name : List ℕ) (i : ℕ) → arguments_of (with_name g node name) i ≡ arguments_of g i
unfolding given_to
name_arguments g node name i =
    given_by (slice_get (with_name g node name).nodes i)
    ∙ ap (λ (o : Option (Named ℕ)). elim o [ None ↦ [] | Some l ↦ l ]) (changed_read (λ (n : Node). arguments_in n.form) g node (λ n. record n { name = Some name }) (λ n. refl) i)
    ∙ sym (given_by (slice_get g.nodes i))

pub name_alias : (g : Parts) (node : ℕ) (name : List ℕ) (m : ℕ) (export : List ℕ) → alias_in (with_name g node name).nodes m export ≡ alias_in g.nodes m export
name_alias g node name m export = changed_alias g node (λ n. record n { name = Some name }) (λ n m export. refl) m export

-- ---- an argument

form_given : (f : Form) (name : List ℕ) (value : ℕ) → IsSome (package_in f) → arguments_in (given_too f name value) ≡ with_named (arguments_in f) name value
form_given (import x) name value h = absurd (cc)
form_given definition name value h = absurd (cc)
form_given (alias node export) name value h = absurd (cc)
form_given (instantiation p arguments) name value h = refl

-- an instance has one more argument, which is the last
pub argument_last : (g : Parts) (node : ℕ) (name : List ℕ) (value : ℕ) → IsSome (package_of g node) → arguments_of (with_argument g node name value) node ≡ with_named (arguments_of g node) name value
unfolding given_to
argument_last g node name value is_instance = go (slice_get g.nodes node) refl is_instance
  where
    go : (o : Option Node) → slice_get g.nodes node ≡ o → IsSome (option_and_then (λ (n : Node). package_in n.form) o)
        → given_to (slice_get (elim o [ None ↦ g.nodes | Some n ↦ slice_set g.nodes node (record n { form = given_too n.form name value }) ]) node) ≡ with_named (given_to o) name value
    go None is h = absurd (cc)
    go (Some n) is h = ap given_to (set_here g.nodes node n (record n { form = given_too n.form name value }) is) ∙ form_given n.form name value h

pub argument_found : (g : Parts) (node : ℕ) (name : List ℕ) (value : ℕ) → IsSome (package_of g node) → IsFresh name (arguments_of g node) → look_up name (arguments_of (with_argument g node name value) node) ≡ Some value
argument_found g node name value is_instance new = ap (look_up name) (argument_last g node name value is_instance) ∙ found_last name (arguments_of g node) value new

pub argument_others : (g : Parts) (node : ℕ) (name : List ℕ) (value : ℕ) (other : List ℕ) → IsSome (package_of g node) → (other ≡ name → ⊥) → look_up other (arguments_of (with_argument g node name value) node) ≡ look_up other (arguments_of g node)
argument_others g node name value other is_instance differ = ap (look_up other) (argument_last g node name value is_instance) ∙ found_other other name (arguments_of g node) value differ

pub argument_nodes : (g : Parts) (node : ℕ) (name : List ℕ) (value i : ℕ) → (i ≡ node → ⊥) → arguments_of (with_argument g node name value) i ≡ arguments_of g i
unfolding given_to
argument_nodes g node name value i other = go (slice_get g.nodes node)
  where
    go : (o : Option Node) → given_to (slice_get (elim o [ None ↦ g.nodes | Some n ↦ slice_set g.nodes node (record n { form = given_too n.form name value }) ]) i) ≡ given_to (slice_get g.nodes i)
    go None = refl
    go (Some n) = ap given_to (set_other g.nodes node i (record n { form = given_too n.form name value }) other)

pub same_alias : (f : Form) (name : List ℕ) (value m : ℕ) (export : List ℕ) → is_alias_of m export (given_too f name value) ≡ is_alias_of m export f
same_alias (import x) name value m export = refl
same_alias definition name value m export = refl
same_alias (alias y e) name value m export = refl
same_alias (instantiation p arguments) name value m export = refl

pub argument_alias : (g : Parts) (node : ℕ) (name : List ℕ) (value m : ℕ) (export : List ℕ) → alias_in (with_argument g node name value).nodes m export ≡ alias_in g.nodes m export
argument_alias g node name value m export = changed_alias g node (λ n. record n { form = given_too n.form name value }) (λ n i e. same_alias n.form name value i e) m export

-- ---- an instance of a package, which is the last node

pub instance_arguments : (g : Parts) (p : ℕ) (k : ItemKind) → arguments_of (with_instantiation g p k) (length g.nodes) ≡ []
instance_arguments g p k = ap (λ (o : Option Node). elim o [ None ↦ [] | Some x ↦ arguments_in x.form ]) (get_last g.nodes (plain_node (instantiation p []) k))

pub instance_imports : (g : Parts) (p : ℕ) (k : ItemKind) (name : List ℕ) → parameter_kind (with_instantiation g p k) (length g.nodes) name ≡ import_kind g p name
instance_imports g p k name = ap (λ (o : Option Node). option_and_then (λ q. import_kind g q name) (option_and_then (λ (x : Node). package_in x.form) o)) (get_last g.nodes (plain_node (instantiation p []) k))

pub instance_exports_are : (g : Parts) (p : ℕ) (k : ItemKind) (name : List ℕ) → export_kind (with_instantiation g p k) (length g.nodes) name ≡ look_up name (instance_exports g.types k)
instance_exports_are g p k name = ap (λ (o : Option Node). option_and_then (λ (x : Node). look_up name (instance_exports g.types x.kind)) o) (get_last g.nodes (plain_node (instantiation p []) k))

pub instance_alias : (g : Parts) (p : ℕ) (k : ItemKind) (m : ℕ) (export : List ℕ) → alias_in (with_instantiation g p k).nodes m export ≡ alias_in g.nodes m export
instance_alias g p k m export = position_more (λ (x : Node). is_alias_of m export x.form) g.nodes (plain_node (instantiation p []) k) refl
