-- What a graph keeps as expressions are resolved.
use Rattle.wac_resolution_expressions.proofs.Common.{◌≡◌, ◌∙◌, ◌<◌, ℕ, zero, suc, List, [], ◌∷◌, Some, refl, sym, ap, subst, length, slice_get, AllByRecursion, Entry, WorldId, Meaning, Named, entry_of, imports_of, Names, NodeId, Parts, means, declared_count, Numbering, Key, HeldPackage, IsHeld, contents_in, supplied_packages, package_of, all_implies, Root, GrowsNodes, composition_of, kind_in, NodesStand, Agrees, composition_expands, still_stand, still_there, agrees_expands, agrees_nodes, Expands, AllSupplied, IsSuppliedAs}
use Rattle.wac_graph_types.specs.declared.kind.ItemKind.TheVariants as kinds
use Rattle.wac_graph_types.specs.Package.{PackageParts}
use Rattle.wac_graph.specs.Node.{Node as GraphNode}
use Rattle.wac_resolution_expressions.specs.Spreads.{GivenThere, imports_at}
use Rattle.wac_resolution_expressions.specs.Growth.{Extends}

pub extends_self : (packages : List (Key × PackageParts)) (g : Parts) → NodesStand g → AllSupplied packages g → Extends packages g g
extends_self packages g stand h = record { same = refl; held = λ i p is. is; named = λ k is. is; kinds = λ numbering k is. refl; nodes = λ n k is. is; stand = stand; supplied = h; count = refl }

pub extends_on : (packages : List (Key × PackageParts)) (a b c : Parts) → Extends packages a b → Extends packages b c → Extends packages a c
extends_on packages a b c p q = record {
  same = q.same ∙ ap (λ (g : Parts). record g { types = c.types; packages = c.packages; nodes = c.nodes }) p.same;
  held = λ i h is. q.held i h (p.held i h is);
  named = λ k is. q.named k (p.named k is);
  kinds = λ numbering k is. q.kinds numbering k (p.named k is) ∙ p.kinds numbering k is;
  nodes = λ n k is. q.nodes n k (p.nodes n k is);
  stand = q.stand;
  supplied = q.supplied;
  count = q.count ∙ p.count;
}

-- more types and packages
pub expands_extends : (packages : List (Key × PackageParts)) (old new : Parts) → Expands old new → NodesStand old → AllSupplied packages new → declared_count new ≡ declared_count old → Extends packages old new
expands_extends packages old new e stand h count =
    let nodes : new.nodes ≡ old.nodes = ap (λ (g : Parts). g.nodes) e.same in record {
      same = e.same ∙ ap (λ (ns : List GraphNode). record old { types = new.types; packages = new.packages; nodes = ns }) (sym nodes);
      held = e.held;
      named = e.named;
      kinds = e.kinds;
      nodes = λ n k is. ap (λ (ns : List GraphNode). kind_in ns n) nodes ∙ is;
      stand = still_stand old new e.same e.held e.named stand;
      supplied = h;
      count = count;
    }

-- the composition stays the same
pub composition_same : (old new : Parts) → Expands old new → NodesStand old → declared_count new ≡ declared_count old → (numbering : Numbering) (declared : Named ℕ) → composition_of numbering new declared ≡ composition_of numbering old declared
composition_same old new e stand count numbering declared =
    composition_expands old new declared numbering e.same e.held (e.kinds numbering) stand ∙ ap (λ (n : ℕ). record (composition_of numbering old declared) { resources = n }) count

-- a package is held as it was supplied, in a graph with other nodes
supplied_nodes : (packages : List (Key × PackageParts)) (old new : Parts) → new ≡ record old { nodes = new.nodes } → (p : HeldPackage) → IsSuppliedAs packages old p → IsSuppliedAs packages new p
supplied_nodes packages old new same p h = record {
  there = subst (λ (es : List Entry). IsHeld es p) (sym (ap (λ (g : Parts). g.types) same)) h.there;
  contents = λ numbering. h.contents numbering ∙ ap (λ (g : Parts). Some (contents_in numbering g p)) (sym same);
}

-- more nodes
pub nodes_extend : (packages : List (Key × PackageParts)) (old new : Parts) → GrowsNodes old new → AllSupplied packages old → Extends packages old new
nodes_extend packages old new g h =
    let types : new.types ≡ old.types = ap (λ (p : Parts). p.types) g.same in
    let held : new.packages ≡ old.packages = ap (λ (p : Parts). p.packages) g.same in record {
      same = g.same ∙ ap (λ (es : List Entry). record old { types = es; nodes = new.nodes }) (sym types) ∙ ap (λ (ps : List HeldPackage). record old { types = new.types; packages = ps; nodes = new.nodes }) (sym held);
      held = λ i p is. ap (λ (ps : List HeldPackage). slice_get ps i) held ∙ is;
      named = λ k is. subst (λ (es : List Entry). Names es k) (sym types) is;
      kinds = λ numbering k is. ap (λ (p : Parts). means numbering p k) g.same;
      nodes = g.kinds;
      stand = g.stand;
      supplied = subst (AllByRecursion (IsSuppliedAs packages new)) (sym held) (all_implies (IsSuppliedAs packages old) (IsSuppliedAs packages new) (supplied_nodes packages old new g.same) old.packages h);
      count = ap declared_count g.same;
    }

each_at : {X : Type 0} (P : X → Type 0) (xs : List X) (i : ℕ) (x : X) → AllByRecursion P xs → slice_get xs i ≡ Some x → P x
each_at P [] i x h is = absurd (cc)
each_at {X} P (y ∷ xs) zero x h is = (let same : y ≡ x = cc in subst P same h.0)
each_at {X} P (y ∷ xs) (suc i) x h is = each_at P xs i x h.1 is

-- what a package that a graph holds was supplied with
pub held_contents : (packages : List (Key × PackageParts)) (g : Parts) (i : ℕ) (p : HeldPackage) → AllSupplied packages g → slice_get g.packages i ≡ Some p → (numbering : Numbering) → package_of p.key (supplied_packages numbering packages) ≡ Some (contents_in numbering g p)
held_contents packages g i p h is numbering = (each_at (IsSuppliedAs packages g) g.packages i p h is).contents numbering

-- ---- what is kept

module _ (packages : List (Key × PackageParts)) (old new : Parts) (e : Extends packages old new) where
  -- the old nodes with the new types and packages
  between : Parts
  between = record old { types = new.types; packages = new.packages }

  then_nodes : GrowsNodes between new
  unfolding between
  then_nodes = record { same = e.same; kinds = e.nodes; stand = e.stand }

  pub agrees_extended : (root : Root) → Agrees old root → Agrees new root
  unfolding between
  agrees_extended root h = agrees_nodes between new root then_nodes (agrees_expands old between root refl e.held e.named h)

  pub node_extended : (n : ℕ) → n < length old.nodes → n < length new.nodes
  unfolding between
  node_extended n there = still_there between new n then_nodes there

  pub given_extended : (all : Named NodeId) → GivenThere old all → GivenThere new all
  given_extended [] h = tt
  given_extended (x ∷ all) h = (node_extended x.1.0 h.0, given_extended all h.1)

  pub world_extended : (w : WorldId) → Names old.types (kinds.Component w) → Names new.types (kinds.Component w)
  world_extended w h = e.named (kinds.Component w) h

  -- what a world imports
  pub imports_extended : (w : WorldId) → Names old.types (kinds.Component w) → (numbering : Numbering) → imports_at numbering new w ≡ imports_at numbering old w
  imports_extended w h numbering = ap (λ (m : Meaning). imports_of (entry_of m)) (e.kinds numbering (kinds.Component w) h)

  -- what a package holds
  pub contents_extended : AllSupplied packages old → (i : ℕ) (p : HeldPackage) → slice_get old.packages i ≡ Some p → (numbering : Numbering) → contents_in numbering new p ≡ contents_in numbering old p
  contents_extended h i p is numbering =
      let before : package_of p.key (supplied_packages numbering packages) ≡ Some (contents_in numbering old p) = held_contents packages old i p h is numbering in
      let after : package_of p.key (supplied_packages numbering packages) ≡ Some (contents_in numbering new p) = held_contents packages new i p e.supplied (e.held i p is) numbering in
      cc
