-- Imports of a world as they are meant, and those that are left out.
use Rattle.wac_resolution_expressions.proofs.Common.{◌≡◌, ◌∙◌, ℕ, List, [], ◌∷◌, Option, Some, None, Bool, true, false, cond, refl, sym, ap, is_some, is_none, length, ◌<◌, slice_get, option_map, option_and_then, unwrap_or, bytes_eq, ItemKind, WorldId, Meaning, of_kind, world_imports, Named, look_up, imports_of, items_mean, Names, world_imports_mean, items_found, NodeId, Parts, entry_means, origin_at, EntriesMean, Numbering, Node, InstantiationArgumentName, slice_get-map, none_within, node_of, composition_of, name_meant, instance_id, own_name, if_imported, name_inferred, left_out, find_name, node_at}
use Rattle.std.specs.Option.{option_or}
use Rattle.wac_graph_types.specs.declared.kind.ItemKind.TheVariants as kinds
use Rattle.wac_graph.specs.Node.{Node as GraphNode}
use Rattle.wac_resolution_expressions.specs.Arguments.{given_nodes, first_name}

-- what a world of the graph imports
pub imports_meant : (g : Parts) (w : WorldId) → EntriesMean g → Names g.types (kinds.Component w) → (numbering : Numbering) → imports_of (entry_means numbering g w.0) ≡ items_mean (entry_means numbering g) (world_imports g.types w.0)
imports_meant g w law named numbering = world_imports_mean (λ n. numbering (origin_at g n)) g.types (entry_means numbering g) (law numbering) w.0 named.1

-- ---- names that are imported

some_meant : (f : ℕ → Meaning) (o : Option ItemKind) → is_some (option_map (of_kind f) o) ≡ is_some o
some_meant f None = refl
some_meant f (Some k) = refl

pub imported_is : (f : ℕ → Meaning) (ks : Named ItemKind) (name : List ℕ) (k : ItemKind) → look_up name ks ≡ Some k → Some name ≡ if_imported (items_mean f ks) (Some name)
imported_is f ks name k is = sym (ap (λ (b : Bool). cond b (Some name) None) (ap is_some (items_found f ks name) ∙ some_meant f (look_up name ks) ∙ ap is_some is))

pub not_imported : (f : ℕ → Meaning) (ks : Named ItemKind) (name : List ℕ) → look_up name ks ≡ None → None ≡ if_imported (items_mean f ks) (Some name)
not_imported f ks name is = sym (ap (λ (b : Bool). cond b (Some name) None) (ap is_some (items_found f ks name) ∙ some_meant f (look_up name ks) ∙ ap is_some is))

-- the name for a node that exists, by its id and its own name
pub inferred_of : (imports : Named Meaning) (name text : List ℕ) (o : Option Node) (n : Node) (id own : Option (List ℕ)) → o ≡ Some n → option_and_then instance_id o ≡ id → option_and_then own_name o ≡ own
    → text ≡ unwrap_or (option_or (if_imported imports id) (if_imported imports own)) (find_name name imports) → option_map (name_inferred imports name) o ≡ Some text
inferred_of imports name text o n id own at is_id is_own is =
    let same_id : instance_id n ≡ id = sym (ap (option_and_then instance_id) at) ∙ is_id in
    let same_own : own_name n ≡ own = sym (ap (option_and_then own_name) at) ∙ is_own in
    ap (option_map (name_inferred imports name)) at
    ∙ ap (λ (x : Option (List ℕ)). Some (unwrap_or (option_or (if_imported imports x) (if_imported imports (own_name n))) (find_name name imports))) same_id
    ∙ ap (λ (x : Option (List ℕ)). Some (unwrap_or (option_or (if_imported imports id) (if_imported imports x)) (find_name name imports))) same_own
    ∙ ap Some (sym is)

node_of_number : (numbering : Numbering) (g : Parts) (declared : Named ℕ) (node : ℕ) → node < length g.nodes → (n : Node) × (node_at (composition_of numbering g declared) node ≡ Some n)
node_of_number numbering g declared node there = go (slice_get g.nodes node) refl
  where
    go : (o : Option GraphNode) → slice_get g.nodes node ≡ o → (n : Node) × (node_at (composition_of numbering g declared) node ≡ Some n)
    go None at = absurd (none_within g.nodes node at there)
    go (Some n) at = (node_of numbering g n, slice_get-map (node_of numbering g) g.nodes node ∙ ap (option_map (node_of numbering g)) at)

pub inferred_here : (g : Parts) (w : WorldId) (node : ℕ) (name text : List ℕ) (id own : Option (List ℕ)) (all : Named ItemKind) → EntriesMean g → Names g.types (kinds.Component w) → node < length g.nodes → all ≡ world_imports g.types w.0
    → ((numbering : Numbering) (declared : Named ℕ) → option_and_then instance_id (node_at (composition_of numbering g declared) node) ≡ id) → ((numbering : Numbering) (declared : Named ℕ) → option_and_then own_name (node_at (composition_of numbering g declared) node) ≡ own)
    → ((f : ℕ → Meaning) → text ≡ unwrap_or (option_or (if_imported (items_mean f all) id) (if_imported (items_mean f all) own)) (find_name name (items_mean f all)))
    → (numbering : Numbering) (declared : Named ℕ) → option_map (name_inferred (imports_of (entry_means numbering g w.0)) name) (node_at (composition_of numbering g declared) node) ≡ Some text
inferred_here g w node name text id own all law named there is is_id is_own said numbering declared =
    let n = node_of_number numbering g declared node there in
    let same : imports_of (entry_means numbering g w.0) ≡ items_mean (entry_means numbering g) all = imports_meant g w law named numbering ∙ ap (items_mean (entry_means numbering g)) (sym is) in
    ap (λ (l : Named Meaning). option_map (name_inferred l name) (node_at (composition_of numbering g declared) node)) same
    ∙ inferred_of (items_mean (entry_means numbering g) all) name text (node_at (composition_of numbering g declared) node) n.0 id own n.1 (is_id numbering declared) (is_own numbering declared) (said (entry_means numbering g))

pub written_here : (g : Parts) (w : WorldId) (x : InstantiationArgumentName) (text : List ℕ) (all : Named ItemKind) → EntriesMean g → Names g.types (kinds.Component w) → all ≡ world_imports g.types w.0
    → ((f : ℕ → Meaning) → text ≡ name_meant x (items_mean f all)) → (numbering : Numbering) → text ≡ name_meant x (imports_of (entry_means numbering g w.0))
written_here g w x text all law named is said numbering =
    said (entry_means numbering g) ∙ ap (name_meant x) (sym (imports_meant g w law named numbering ∙ ap (items_mean (entry_means numbering g)) (sym is)))

-- where nothing is imported, the name stays
none_imported : (o : Option (List ℕ)) → if_imported [] o ≡ None
none_imported None = refl
none_imported (Some x) = refl

pub inferred_none : (name : List ℕ) (n : Node) → name_inferred [] name n ≡ name
inferred_none name n = ap (λ (x : Option (List ℕ)). unwrap_or (option_or x (if_imported [] (own_name n))) name) (none_imported (instance_id n)) ∙ ap (λ (x : Option (List ℕ)). unwrap_or x name) (none_imported (own_name n))

pub inferred_nowhere : (g : Parts) (w : WorldId) (node : ℕ) (name : List ℕ) → EntriesMean g → Names g.types (kinds.Component w) → node < length g.nodes → [] ≡ world_imports g.types w.0
    → (numbering : Numbering) (declared : Named ℕ) → option_map (name_inferred (imports_of (entry_means numbering g w.0)) name) (node_at (composition_of numbering g declared) node) ≡ Some name
inferred_nowhere g w node name law named there is numbering declared =
    let n = node_of_number numbering g declared node there in
    let same : imports_of (entry_means numbering g w.0) ≡ [] = imports_meant g w law named numbering ∙ ap (items_mean (entry_means numbering g)) (sym is) in
    ap (λ (l : Named Meaning). option_map (name_inferred l name) (node_at (composition_of numbering g declared) node)) same
    ∙ ap (option_map (name_inferred [] name)) n.1 ∙ ap Some (inferred_none name n.0)

-- ---- left out

-- the first that is left out of all is the first that is left out of the rest
abbrev pub Skipping : Named ℕ → Named ItemKind → Named ItemKind → Type 0
Skipping given all rest = (f : ℕ → Meaning) → first_name (left_out (items_mean f rest) given) ≡ first_name (left_out (items_mean f all) given)

number_found : (all : Named NodeId) (name : List ℕ) → is_none (look_up name (given_nodes all)) ≡ is_none (look_up name all)
number_found [] name = refl
number_found (e ∷ all) name = go (bytes_eq name e.0) (number_found all name)
  where
    go : (b : Bool) → is_none (look_up name (given_nodes all)) ≡ is_none (look_up name all) → is_none (cond b (Some e.1.0) (look_up name (given_nodes all))) ≡ is_none (cond b (Some e.1) (look_up name all))
    go true later = refl
    go false later = later

next_left : (given : Named ℕ) (f : ℕ → Meaning) (x : List ℕ × ItemKind) (left : Named ItemKind) (b : Bool) → is_none (look_up x.0 given) ≡ b → left_out (items_mean f (x ∷ left)) given ≡ cond b ((x.0, of_kind f x.1) ∷ left_out (items_mean f left) given) (left_out (items_mean f left) given)
next_left given f x left b is = ap (λ (c : Bool). cond c ((x.0, of_kind f x.1) ∷ left_out (items_mean f left) given) (left_out (items_mean f left) given)) is

pub skip_given : (given : Named NodeId) (all rest left : Named ItemKind) (x : List ℕ × ItemKind) → rest ≡ x ∷ left → is_none (look_up x.0 given) ≡ false → Skipping (given_nodes given) all rest → Skipping (given_nodes given) all left
skip_given given all rest left x is here h f =
    ap first_name (sym (ap (λ (l : Named ItemKind). left_out (items_mean f l) (given_nodes given)) is ∙ next_left (given_nodes given) f x left false (number_found given x.0 ∙ here))) ∙ h f

pub first_left : (given : Named NodeId) (all rest left : Named ItemKind) (x : List ℕ × ItemKind) → rest ≡ x ∷ left → is_none (look_up x.0 given) ≡ true → Skipping (given_nodes given) all rest
    → (f : ℕ → Meaning) → Some x.0 ≡ first_name (left_out (items_mean f all) (given_nodes given))
first_left given all rest left x is here h f =
    ap first_name (sym (ap (λ (l : Named ItemKind). left_out (items_mean f l) (given_nodes given)) is ∙ next_left (given_nodes given) f x left true (number_found given x.0 ∙ here))) ∙ h f

pub none_left : (given : Named NodeId) (all rest : Named ItemKind) → rest ≡ [] → Skipping (given_nodes given) all rest → (f : ℕ → Meaning) → None ≡ first_name (left_out (items_mean f all) (given_nodes given))
none_left given all rest is h f = ap (λ (l : Named ItemKind). first_name (left_out (items_mean f l) (given_nodes given))) (sym is) ∙ h f

pub ruleset imported_names = (imported_is, not_imported)
