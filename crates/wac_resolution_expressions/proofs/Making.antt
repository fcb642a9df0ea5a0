-- An instance that is made argument by argument.
use Rattle.wac_resolution_expressions.proofs.Common.{◌≡◌, ◌∙◌, ◌<◌, ℕ, suc, List, [], ◌∷◌, ◌++◌, Option, Some, None, refl, sym, ap, subst, map, length, arith, slice_get, option_and_then, IfSome, IsSome, String, Global, AllByRecursion, IsDistinct, map_push, ItemKind, by_name, Named, IsFresh, none_within, NodeId, Parts, with_instantiation, with_argument, import_kind, parameter_kind, arguments_of, means, HeldPackage, get_last, Composition, at, with_instance, composition_of, sound_stands, grows_more, next_is, instance_with, instance_given, composition_instance, fresh_read}
use Rattle.std.specs.Map.{keys_of}
use Rattle.std.specs.String.{string_eq}
use Rattle.wac_graph_types.specs.declared.kind.ItemKind.TheVariants as kinds
use Rattle.wac_graph.specs.Node.{Node as GraphNode, instantiation, package_in, arguments_in}
use Rattle.wac_graph.specs.Sound.{IsSound}
use Rattle.wac_graph.proofs.Copying.{Copying, copying_start, copying_new, copying_step, copying_end}
use Rattle.wac_resolution_expressions.specs.Arguments.{given_nodes}
use Rattle.wac_resolution_expressions.specs.Spreads.{GivenThere}
use Rattle.wac_resolution_expressions.specs.Instances.{MakesInstance}

abbrev Entry : Type 0
Entry = List ℕ × NodeId

abbrev Imported : Parts → ℕ → Entry → Type 0
Imported g p e = IsSome (import_kind g p e.0)

-- ---- what is read of the instance

parameter_is : (g : Parts) (p : ℕ) (k : ItemKind) (arguments : Named ℕ) (name : List ℕ) → parameter_kind (instance_with g p k arguments) (length g.nodes) name ≡ import_kind g p name
parameter_is g p k arguments name =
    ap (λ (o : Option GraphNode). option_and_then (λ (q : ℕ). import_kind (instance_with g p k arguments) q name) (option_and_then (λ (n : GraphNode). package_in n.form) o))
    (get_last g.nodes (record { form = instantiation p arguments; kind = k; name = None }))

arguments_are : (g : Parts) (p : ℕ) (k : ItemKind) (arguments : Named ℕ) → arguments_of (instance_with g p k arguments) (length g.nodes) ≡ arguments
arguments_are g p k arguments =
    ap (λ (o : Option GraphNode). elim o as (λ _. Named ℕ) [ None ↦ [] | Some n ↦ arguments_in n.form ])
    (get_last g.nodes (record { form = instantiation p arguments; kind = k; name = None }))

-- ---- so far

-- the instance exists, with the arguments before the rest
pub record Making (old now : Parts) (p node : ℕ) (all rest : Named NodeId) : Type 0 where
  pub held : HeldPackage
  pub found : slice_get old.packages p ≡ Some held
  pub done : Named NodeId
  pub is : now ≡ instance_with old p (kinds.Instance held.instance) (given_nodes done)
  pub number : node ≡ length old.nodes
  pub there : GivenThere old rest
  pub imports : AllByRecursion (Imported old p) rest
  pub copying : Copying (λ (e : Entry). e) (λ (e : Entry). e) (λ (e : Entry). Unit {0}) all done rest

always : (xs : List Entry) → AllByRecursion (λ (e : Entry). Unit {0}) xs
always [] = tt
always (x ∷ xs) = (tt, always xs)

pub making_start : (old now : Parts) (p node : ℕ) (es : List (String Global × NodeId)) → p < length old.packages → IfSome (slice_get old.packages p) (λ h. now ≡ with_instantiation old p (kinds.Instance h.instance)) → node ≡ length old.nodes
    → GivenThere old (by_name es) → AllByRecursion (Imported old p) (by_name es) → IsDistinct string_eq (keys_of es) → Making old now p node (by_name es) (by_name es)
making_start old now p node es within made number there imports unique = go (slice_get old.packages p) refl made
  where
    go : (o : Option HeldPackage) → slice_get old.packages p ≡ o → IfSome o (λ h. now ≡ with_instantiation old p (kinds.Instance h.instance)) → Making old now p node (by_name es) (by_name es)
    go None at m = absurd (none_within old.packages p at within)
    go (Some h) at m = record {
      held = h;
      found = at;
      done = [];
      is = m;
      number = number;
      there = there;
      imports = imports;
      copying = copying_start (λ (e : Entry). e) (λ (e : Entry). e) (λ (e : Entry). Unit {0}) es (always (map (λ (e : Entry). e) (by_name es))) unique;
    }

module _ (old now : Parts) (p node : ℕ) (all rest left : Named NodeId) (x : Entry) (is : rest ≡ x ∷ left) (m : Making old now p node all rest) where
  made : now ≡ instance_with old p (kinds.Instance m.held.instance) (given_nodes m.done)
  made = m.is

  pub making_import : IsSome (parameter_kind now node x.0)
  making_import =
      let here : IsSome (import_kind old p x.0) = (subst (AllByRecursion (Imported old p)) is m.imports).0 in
      let read : parameter_kind now node x.0 ≡ import_kind old p x.0 =
      ap (λ (g : Parts). parameter_kind g node x.0) made ∙ ap (λ (n : ℕ). parameter_kind (instance_with old p (kinds.Instance m.held.instance) (given_nodes m.done)) n x.0) m.number
      ∙ parameter_is old p (kinds.Instance m.held.instance) (given_nodes m.done) x.0 in
      subst (λ (o : Option ItemKind). IsSome o) (sym read) here

  pub making_open : IsFresh x.0 (arguments_of now node)
  making_open =
      let read : arguments_of now node ≡ given_nodes m.done =
      ap (λ (g : Parts). arguments_of g node) made ∙ ap (λ (n : ℕ). arguments_of (instance_with old p (kinds.Instance m.held.instance) (given_nodes m.done)) n) m.number
      ∙ arguments_are old p (kinds.Instance m.held.instance) (given_nodes m.done) in
      subst (λ (l : Named ℕ). IsFresh x.0 l) (sym read)
      (fresh_read (λ (n : NodeId). n.0) m.done x.0 (copying_new (λ (e : Entry). e) (λ (e : Entry). e) (λ (e : Entry). Unit {0}) all m.done rest left x is m.copying))

  pub making_earlier : x.1.0 < node
  making_earlier = subst (λ (n : ℕ). x.1.0 < n) (sym m.number) (subst (GivenThere old) is m.there).0

  pub making_next : (new : Parts) → new ≡ with_argument now node x.0 x.1.0 → Making old new p node all left
  making_next new gave = record {
    held = m.held;
    found = m.found;
    done = m.done ++ x ∷ [];
    is =
        gave
        ∙ ap (λ (g : Parts). with_argument g node x.0 x.1.0) made
        ∙ ap (λ (n : ℕ). with_argument (instance_with old p (kinds.Instance m.held.instance) (given_nodes m.done)) n x.0 x.1.0) m.number
        ∙ instance_given old p (kinds.Instance m.held.instance) (given_nodes m.done) x.0 x.1.0
        ∙ ap (instance_with old p (kinds.Instance m.held.instance)) (sym (map_push (λ (e : Entry). (e.0, e.1.0)) m.done x));
    number = m.number;
    there = (subst (GivenThere old) is m.there).1;
    imports = (subst (AllByRecursion (Imported old p)) is m.imports).1;
    copying = copying_step (λ (e : Entry). e) (λ (e : Entry). e) (λ (e : Entry). Unit {0}) all m.done rest left (m.done ++ x ∷ []) x x is m.copying refl refl refl;
  }

-- ---- made

map_same : (xs : List Entry) → map (λ (e : Entry). e) xs ≡ xs
map_same [] = refl
map_same (x ∷ xs) = ap (λ (l : List Entry). x ∷ l) (map_same xs)

push_longer : {X : Type 0} (xs : List X) (x : X) → length (xs ++ x ∷ []) ≡ suc (length xs)
push_longer [] x = refl
push_longer (y ∷ xs) x = ap suc (push_longer xs x)

pub making_end : (old now : Parts) (p node : ℕ) (all rest : Named NodeId) → rest ≡ [] → IsSound now → Making old now p node all rest → MakesInstance old now p all node
making_end old now p node all rest is sound m =
    let k : ItemKind = kinds.Instance m.held.instance in
    let last : GraphNode = record { form = instantiation p (given_nodes m.done); kind = k; name = None } in
    let every : m.done ≡ all =
    sym (map_same m.done) ∙ copying_end (λ (e : Entry). e) (λ (e : Entry). e) (λ (e : Entry). Unit {0}) all m.done rest is m.copying ∙ map_same (map (λ (e : Entry). e) all) ∙ map_same all in
    let longer : length now.nodes ≡ suc (length old.nodes) = ap (λ (g : Parts). length g.nodes) m.is ∙ push_longer old.nodes last in
    let number : node ≡ length old.nodes = m.number in record {
      grows = grows_more old now (last ∷ []) m.is (sound_stands now sound);
      there = omega (arith, longer, number);
      is = λ held found numbering declared.
          let both : Some m.held ≡ Some held = sym m.found ∙ found in
          let one : m.held ≡ held = cc in
          let c : Composition = composition_of numbering old declared in
          ap (λ (g : Parts). at (composition_of numbering g declared) node) m.is
          ∙ ap (λ (x : Composition). at x node) (composition_instance old declared p k (given_nodes m.done) numbering m.held m.found)
          ∙ ap (λ (l : Named NodeId). at (with_instance c m.held.key (means numbering old k) (given_nodes l)) node) every
          ∙ ap (λ (h : HeldPackage). at (with_instance c h.key (means numbering old (kinds.Instance h.instance)) (given_nodes all)) node) one
          ∙ ap (λ (n : ℕ). at (with_instance c held.key (means numbering old (kinds.Instance held.instance)) (given_nodes all)) n) (number ∙ sym (next_is numbering old declared));
    }
