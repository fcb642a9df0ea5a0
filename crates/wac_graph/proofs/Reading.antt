-- What is read of a graph exists.
use Rattle.wac_graph.proofs.Common.{◌≡◌, ◌<◌, ℕ, Option, Some, None, List, [], length, sym, ap, arith, rules, Bor, slice_get, option_map, option_and_then, IfSome, IsSome, slice_get_within, Named, look_up}
use Rattle.wac_graph.specs.Node.{Node, Form, import, definition, alias, instantiation, sort_in, source_in, package_in, arguments_in, HasPackage}
use Rattle.wac_graph.specs.Graph.{Parts, arguments_of, package_of, import_kind, parameter_kind}
use Rattle.wac_graph.specs.Sound.{NamesNodes, IsSoundNode, IsPlaced}
use Rattle.wac_graph.specs.declared.node.NodeId.{NodeId}
use Rattle.wac_graph.specs.declared.node.PackageId.{PackageId}
use Rattle.wac_graph.proofs.Lists.{found_in}

-- ---- of a node that is well placed

pub has_package : (g : Parts) (i : ℕ) (n : Node) → IsSoundNode g i n → HasPackage (length g.packages) (sort_in n.form)
has_package g i n h = go n.form h.placed
  where
    go : (f : Form) → IsPlaced g i n.kind f → HasPackage (length g.packages) (sort_in f)
    go (import name) p = tt
    go definition p = tt
    go (alias node export) p = tt
    go (instantiation q arguments) p = slice_get_within g.packages q p.of p.held

pub package_there : (g : Parts) (i : ℕ) (n : Node) → IsSoundNode g i n → IfSome (package_in n.form) (λ p. p < length g.packages)
package_there g i n h = go n.form h.placed
  where
    go : (f : Form) → IsPlaced g i n.kind f → IfSome (package_in f) (λ p. p < length g.packages)
    go (import name) p = tt
    go definition p = tt
    go (alias node export) p = tt
    go (instantiation q arguments) p = slice_get_within g.packages q p.of p.held

pub source_earlier : (g : Parts) (i : ℕ) (n : Node) → IsSoundNode g i n → IfSome (source_in n.form) (λ s. s.0 < i)
source_earlier g i n h = go n.form h.placed
  where
    go : (f : Form) → IsPlaced g i n.kind f → IfSome (source_in f) (λ s. s.0 < i)
    go (import name) p = tt
    go definition p = tt
    go (alias node export) p = p.earlier
    go (instantiation q arguments) p = tt

pub arguments_earlier : (g : Parts) (i : ℕ) (n : Node) → IsSoundNode g i n → NamesNodes i (arguments_in n.form)
arguments_earlier g i n h = go n.form h.placed
  where
    go : (f : Form) → IsPlaced g i n.kind f → NamesNodes i (arguments_in f)
    go (import name) p = tt
    go definition p = tt
    go (alias node export) p = tt
    go (instantiation q arguments) p = p.earlier

-- ---- of results

pub arguments_are : (g : Parts) (i : ℕ) (n : Node) → slice_get g.nodes i ≡ Some n → arguments_of g i ≡ arguments_in n.form
arguments_are g i n is = ap (λ (o : Option Node). elim o [ None ↦ [] | Some m ↦ arguments_in m.form ]) is

pub package_is : (g : Parts) (i : ℕ) (n : Node) → slice_get g.nodes i ≡ Some n → package_of g i ≡ package_in n.form
package_is g i n is = ap (λ (o : Option Node). option_and_then (λ (m : Node). package_in m.form) o) is

-- a node that a name finds exists
pub named_there : (name : List ℕ) (nodes : ℕ) (names : Named ℕ) (r : Option NodeId) → option_map (λ n. n.0) r ≡ look_up name names → NamesNodes nodes names → IfSome r (λ n. n.0 < nodes)
named_there name nodes names None is h = tt
named_there name nodes names (Some n) is h = found_in (λ (m : ℕ). m < nodes) name names n.0 h (sym is)

pub source_there : (i : ℕ) (r : Option (NodeId × Bor (List ℕ))) (s : Option (ℕ × List ℕ)) → option_map (λ x. (x.0.0, x.1.now)) r ≡ s → IfSome s (λ x. x.0 < i) → IfSome r (λ x. x.0.0 < i)
source_there i None s is h = tt
source_there i (Some x) None is h = absurd (cc)
source_there i (Some x) (Some y) is h = (let same : x.0.0 ≡ y.0 = cc in omega arith)

pub package_within : (packages : ℕ) (r : Option PackageId) (s : Option ℕ) → option_map (λ p. p.0) r ≡ s → IfSome s (λ p. p < packages) → IfSome r (λ p. p.0 < packages)
package_within packages None s is h = tt
package_within packages (Some x) None is h = absurd (cc)
package_within packages (Some x) (Some y) is h = (let same : x.0 ≡ y = cc in omega arith)

-- a node that has a parameter is an instance
pub parameter_instance : (g : Parts) (node : ℕ) (name : List ℕ) → IsSome (parameter_kind g node name) → IsSome (package_of g node)
parameter_instance g node name is = go (package_of g node) is
  where
    go : (o : Option ℕ) → IsSome (option_and_then (λ p. import_kind g p name) o) → IsSome o
    go None h = absurd (cc)
    go (Some p) h = search rules
