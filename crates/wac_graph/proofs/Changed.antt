-- Nodes that are changed in their place.
use Rattle.wac_graph.proofs.Common.{◌≡◌, ◌∙◌, ◌<◌, ℕ, Option, Some, None, List, [], length, refl, sym, ap, subst, slice_get, slice_set, option_and_then, IsSome, slice_get_within, Named, IsFresh}
use Rattle.wac_graph.specs.Node.{Node, package_in, arguments_in}
use Rattle.wac_graph.specs.HeldNodes.{arguments_at, changed_in}

-- an instance is among the nodes
pub instance_there : (ns : List Node) (i : ℕ) → IsSome (option_and_then (λ (n : Node). package_in n.form) (slice_get ns i)) → i < length ns
instance_there ns i is = go (slice_get ns i) refl is
  where
    go : (o : Option Node) → slice_get ns i ≡ o → IsSome (option_and_then (λ (n : Node). package_in n.form) o) → i < length ns
    go None at h = absurd (cc)
    go (Some n) at h = slice_get_within ns i n at

pub instance_at : (ns : List Node) (i : ℕ) (n : Node) → slice_get ns i ≡ Some n → IsSome (option_and_then (λ (m : Node). package_in m.form) (slice_get ns i)) → IsSome (package_in n.form)
instance_at ns i n at is = subst (λ (o : Option Node). IsSome (option_and_then (λ (m : Node). package_in m.form) o)) at is

pub open_at : (ns : List Node) (i : ℕ) (n : Node) (name : List ℕ) → slice_get ns i ≡ Some n → IsFresh name (arguments_at ns i) → IsFresh name (arguments_in n.form)
open_at ns i n name at new = subst (λ (o : Option Node). IsFresh name (elim o as (λ (v : Option Node). Named ℕ) [ None ↦ [] | Some m ↦ arguments_in m.form ])) at new

-- a node that was changed to this
pub changed_here : (ns : List Node) (i : ℕ) (n m : Node) (f : Node → Node) → slice_get ns i ≡ Some n → m ≡ f n → slice_set ns i m ≡ changed_in ns i f
changed_here ns i n m f at to = ap (slice_set ns i) to ∙ sym (ap (λ (o : Option Node). elim o as (λ (v : Option Node). List Node) [ None ↦ ns | Some x ↦ slice_set ns i (f x) ]) at)
