-- Nodes that are found by name.
use Rattle.wac_graph.proofs.Common.{◌≡◌, ◌∙◌, ℕ, List, [], ◌∷◌, Option, Some, None, Bool, true, false, cond, refl, ap, option_map, bytes_eq, Named, look_up, with_named, IsFresh}
use Rattle.wac_graph.specs.NodeNames.{numbers_of}
use Rattle.wac_graph.specs.declared.node.NodeId.{NodeId}

-- the number of the node that a name finds
pub number_found : (name : List ℕ) (names : Named NodeId) → option_map (λ n. n.0) (look_up name names) ≡ look_up name (numbers_of names)
number_found name [] = refl
number_found name (n ∷ names) = go (bytes_eq name n.0) (number_found name names)
  where
    go : (b : Bool) → option_map (λ n. n.0) (look_up name names) ≡ look_up name (numbers_of names) → option_map (λ n. n.0) (cond b (Some n.1) (look_up name names)) ≡ cond b (Some n.1.0) (look_up name (numbers_of names))
    go true later = refl
    go false later = later

-- a name that has no number
pub no_number : (name : List ℕ) (names : Named NodeId) → IsFresh name (numbers_of names) → IsFresh name names
no_number name names fresh = go (look_up name names) (number_found name names ∙ fresh)
  where
    go : (o : Option NodeId) → option_map (λ n. n.0) o ≡ None → o ≡ None
    go None h = refl
    go (Some n) h = absurd (cc)

-- one more node
pub one_more_number : (names : Named NodeId) (name : List ℕ) (node : NodeId) → numbers_of (with_named names name node) ≡ with_named (numbers_of names) name node.0
one_more_number [] name node = refl
one_more_number (n ∷ names) name node = ap (λ (l : Named ℕ). (n.0, n.1.0) ∷ l) (one_more_number names name node)
