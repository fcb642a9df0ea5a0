-- What is kept beside a graph still agrees with it as the graph gets nodes.
use Rattle.wac_resolution_statements.proofs.Common.{◌≡◌, ◌∙◌, ℕ, List, [], ◌∷◌, Some, sym, ap, subst, AllByRecursion, ItemKind, PackageParts, Named, NodeId, Parts, Key, HeldPackage, names_of, Bindings, Root, kind_in, NodesStand, EachAgrees, Agrees, IsSuppliedAs, AllSupplied, Extends}
use Rattle.wac_resolution_statements.specs.declared.externs.Externs.{Externs}
use Rattle.wac_resolution_statements.specs.Externs.{ArePlaced}
use Rattle.wac_graph.specs.Node.{Node as GraphNode}

each_still : (old new : Parts) (ns : Bindings NodeId) (ks : Bindings ItemKind) → ((n : ℕ) (k : ItemKind) → kind_in old.nodes n ≡ Some k → kind_in new.nodes n ≡ Some k) → EachAgrees old ns ks → EachAgrees new ns ks
each_still old new [] [] keep h = tt
each_still old new [] (k ∷ ks) keep h = absurd h
each_still old new (n ∷ ns) [] keep h = absurd h
each_still old new (n ∷ ns) (k ∷ ks) keep h = (record { name = h.0.name; place = h.0.place; kind = keep n.1.1.0 k.1.1 h.0.kind }, each_still old new ns ks keep h.1)

-- the names at root still denote nodes and their kinds, where each node keeps its kind
pub agrees_still : (old new : Parts) (root : Root) → NodesStand new → ((n : ℕ) (k : ItemKind) → kind_in old.nodes n ≡ Some k → kind_in new.nodes n ≡ Some k) → Agrees old root → Agrees new root
agrees_still old new root stand keep h = record { nodes = stand; names = each_still old new root.nodes root.kinds keep h.names }

pub agrees_extends : (packages : List (Key × PackageParts)) (old new : Parts) (root : Root) → Extends packages old new → Agrees old root → Agrees new root
agrees_extends packages old new root e h = agrees_still old new root e.stand e.nodes h

-- the places are still those of the imports and exports, where these are the same
pub placed_still : (old new : Parts) (x : Externs) → new.imports ≡ old.imports → new.exports ≡ old.exports → ArePlaced old x → ArePlaced new x
placed_still old new x imports exports h = record {
  imported = h.imported ∙ ap (λ (l : Named ℕ). names_of l) (sym imports);
  exported = h.exported ∙ ap (λ (l : Named ℕ). names_of l) (sym exports);
}

each_supplied : (packages : List (Key × PackageParts)) (old : Parts) (nodes : List GraphNode) (exports : Named ℕ) (ps : List HeldPackage) → AllByRecursion (IsSuppliedAs packages old) ps
    → AllByRecursion (IsSuppliedAs packages (record old { nodes = nodes; exports = exports })) ps
each_supplied packages old nodes exports [] h = tt
each_supplied packages old nodes exports (p ∷ ps) h = (record { there = h.0.there; contents = h.0.contents }, each_supplied packages old nodes exports ps h.1)

-- each package is still held as it was supplied
pub supplied_still : (packages : List (Key × PackageParts)) (old new : Parts) → new ≡ record old { nodes = new.nodes; exports = new.exports } → AllSupplied packages old → AllSupplied packages new
supplied_still packages old new same h = subst (λ (g : Parts). AllSupplied packages g) (sym same) (each_supplied packages old new.nodes new.exports old.packages h)
