-- Aliases are found as nodes are added and changed.
use Rattle.wac_graph.proofs.Common.{◌≡◌, ◌∙◌, ◌+◌, ℕ, zero, suc, Option, Some, None, List, [], ◌∷◌, ◌++◌, length, refl, sym, ap, subst, Bool, true, false, cond, ◌&&◌, ◌⊎◌, inl, inr, slice_get, slice_set, option_map, unwrap_or, nat_eq, position, bytes_eq, Decides-eqb, bytes_eq-Decides, ItemKind, Named, look_up, with_named, IsFresh}
use Rattle.std.proofs.lemmas.List.{length-append}
use Rattle.wac_graph.specs.Node.{Node, Form, import, definition, alias, instantiation, source_in, is_alias_of}
use Rattle.wac_graph.specs.Graph.{alias_in, plain_node}
use Rattle.wac_graph.specs.HeldNodes.{aliases_at, AreIndexed}
use Rattle.wac_graph.proofs.Calls.{first_of, position_more, position_set}
use Rattle.wac_graph.proofs.Keys.{itself}
use Rattle.wac_graph.proofs.Lists.{set_here, set_other, set_length, found_last, found_other}

-- ---- aliases of a node

no_more : (all : List (Named ℕ)) (node : ℕ) → aliases_at (all ++ [] ∷ []) node ≡ aliases_at all node
no_more [] zero = refl
no_more [] (suc node) = refl
no_more (a ∷ all) zero = refl
no_more (a ∷ all) (suc node) = no_more all node

-- a node without source is no alias
no_alias : (f : Form) (node : ℕ) (export : List ℕ) → source_in f ≡ None → is_alias_of node export f ≡ false
no_alias (import name) node export h = refl
no_alias definition node export h = refl
no_alias (alias n e) node export h = absurd (cc)
no_alias (instantiation p arguments) node export h = refl

-- one more node that is no alias
pub plain_indexed : (ns : List Node) (all : List (Named ℕ)) (n : Node) → source_in n.form ≡ None → AreIndexed ns all → AreIndexed (ns ++ n ∷ []) (all ++ [] ∷ [])
plain_indexed ns all n plain h = record {
  each = length-append all ([] ∷ []) ∙ ap (λ k. k + 1) h.each ∙ sym (length-append ns (n ∷ []));
  found = λ node export. ap (look_up export) (no_more all node) ∙ h.found node export ∙ sym (position_more (λ (x : Node). is_alias_of node export x.form) ns n (no_alias n.form node export plain));
}

-- ---- a node that is changed in its place

pub changed_indexed : (ns : List Node) (all : List (Named ℕ)) (i : ℕ) (n m : Node) → slice_get ns i ≡ Some n → ((node : ℕ) (export : List ℕ) → is_alias_of node export m.form ≡ is_alias_of node export n.form)
    → AreIndexed ns all → AreIndexed (slice_set ns i m) all
changed_indexed ns all i n m at same h = record {
  each = h.each ∙ sym (set_length ns i m);
  found = λ node export. h.found node export ∙ sym (position_set (λ (x : Node). is_alias_of node export x.form) ns i n m at (same node export));
}

-- ---- one more alias

-- where none passes, what goes last is the first that does
first_last : {X : Type 0} (p : X → Bool) (xs : List X) (x : X) → position p xs ≡ None → p x ≡ true → position p (xs ++ x ∷ []) ≡ Some (length xs)
first_last p [] x none here = first_of p x [] ∙ ap (λ (b : Bool). cond b (Some 0) None) here
first_last {X} p (y ∷ xs) x none here = first_of p y (xs ++ x ∷ []) ∙ go (p y) (sym (first_of p y xs) ∙ none) (first_last p xs x)
  where
    rest : (o : Option ℕ) → option_map suc o ≡ None → o ≡ None
    rest None h = refl
    rest (Some i) h = absurd (cc)

    go : (b : Bool) → cond b (Some 0) (option_map suc (position p xs)) ≡ None → (position p xs ≡ None → p x ≡ true → position p (xs ++ x ∷ []) ≡ Some (length xs))
        → cond b (Some 0) (option_map suc (position p (xs ++ x ∷ []))) ≡ Some (suc (length xs))
    go true h later = absurd (cc)
    go false h later = ap (option_map suc) (later (rest (position p xs) h) here)

-- the aliases of a node and of the others, where those of the node are changed
changed_aliases : (all : List (Named ℕ)) (node : ℕ) (own more : Named ℕ) → slice_get all node ≡ Some own → aliases_at (slice_set all node more) node ≡ more
changed_aliases all node own more is = ap (λ (o : Option (Named ℕ)). unwrap_or o []) (set_here all node own more is)

other_aliases : (all : List (Named ℕ)) (node other : ℕ) (more : Named ℕ) → (other ≡ node → ⊥) → aliases_at (slice_set all node more) other ≡ aliases_at all other
other_aliases all node other more differ = ap (λ (o : Option (Named ℕ)). unwrap_or o []) (set_other all node other more differ)

-- ---- texts and numbers, distinguished

texts : (a b : List ℕ) → (a ≡ b) ⊎ (bytes_eq a b ≡ false)
texts a b = go (bytes_eq a b) (bytes_eq-Decides a b).0
  where
    go : (t : Bool) → (t ≡ true → a ≡ b) → (a ≡ b) ⊎ (t ≡ false)
    go true same = inl (same refl)
    go false same = inr refl

numbers : (a b : ℕ) → (a ≡ b) ⊎ (nat_eq a b ≡ false)
numbers a b = go (nat_eq a b) (Decides-eqb a b).0
  where
    go : (t : Bool) → (t ≡ true → a ≡ b) → (a ≡ b) ⊎ (t ≡ false)
    go true same = inl (same refl)
    go false same = inr refl

text_differs : (a b : List ℕ) → bytes_eq a b ≡ false → b ≡ a → ⊥
text_differs a b h e = (let same : bytes_eq a b ≡ true = (bytes_eq-Decides a b).1 (sym e) in absurd (cc))

number_differs : (a b : ℕ) → nat_eq a b ≡ false → b ≡ a → ⊥
number_differs a b h e = (let same : nat_eq a b ≡ true = (Decides-eqb a b).1 (sym e) in absurd (cc))

first_fails : (a b : Bool) → a ≡ false → (a && b) ≡ false
first_fails true b h = absurd (cc)
first_fails false b h = refl

second_fails : (a b : Bool) → b ≡ false → (a && b) ≡ false
second_fails true b h = h
second_fails false b h = refl

-- ---- the alias of an export that has none

module _ (ns : List Node) (all : List (Named ℕ)) (node : ℕ) (export : List ℕ) (k : ItemKind) (own : Named ℕ) (is : slice_get all node ≡ Some own) (none : alias_in ns node export ≡ None) (h : AreIndexed ns all) where
  abbrev new : Node
  new = plain_node (alias node export) k

  abbrev more : Named ℕ
  more = with_named own export (length ns)

  mine : aliases_at all node ≡ own
  mine = ap (λ (o : Option (Named ℕ)). unwrap_or o []) is

  pub no_alias_yet : IsFresh export own
  no_alias_yet = ap (look_up export) (sym mine) ∙ h.found node export ∙ none

  -- among the aliases of the node itself
  found_own : (e : List ℕ) → look_up e more ≡ alias_in (ns ++ new ∷ []) node e
  found_own e = elim (texts export e) [
    | inl same ↦ subst (λ (x : List ℕ). look_up x more ≡ alias_in (ns ++ new ∷ []) node x) same
        (found_last export own (length ns) no_alias_yet ∙ sym (first_last (λ (x : Node). is_alias_of node export x.form) ns new none (itself node export)))
    | inr differ ↦ found_other e export own (length ns) (text_differs export e differ) ∙ ap (look_up e) (sym mine) ∙ h.found node e
        ∙ sym (position_more (λ (x : Node). is_alias_of node e x.form) ns new (second_fails (nat_eq node node) (bytes_eq export e) differ))
  ]

  found_each : (m : ℕ) (e : List ℕ) → look_up e (aliases_at (slice_set all node more) m) ≡ alias_in (ns ++ new ∷ []) m e
  found_each m e = elim (numbers node m) [
    | inl same ↦ subst (λ (x : ℕ). look_up e (aliases_at (slice_set all node more) x) ≡ alias_in (ns ++ new ∷ []) x e) same (ap (look_up e) (changed_aliases all node own more is) ∙ found_own e)
    | inr differ ↦ ap (look_up e) (other_aliases all node m more (number_differs node m differ)) ∙ h.found m e
        ∙ sym (position_more (λ (x : Node). is_alias_of m e x.form) ns new (first_fails (nat_eq node m) (bytes_eq export e) differ))
  ]

  pub alias_indexed : AreIndexed (ns ++ new ∷ []) (slice_set all node more ++ [] ∷ [])
  alias_indexed = record {
    each = length-append (slice_set all node more) ([] ∷ []) ∙ ap (λ l. l + 1) (set_length all node more ∙ h.each) ∙ sym (length-append ns (new ∷ []));
    found = λ m e. ap (look_up e) (no_more (slice_set all node more) m) ∙ found_each m e;
  }
