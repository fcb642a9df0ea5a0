-- An import that is added to a graph.
use Rattle.wac_resolution_statements.proofs.Common.{◌≡◌, ◌∙◌, ◌<◌, ℕ, List, [], ◌∷◌, ◌++◌, Some, sym, ap, subst, arith, length, length-append, map_push, Span, Ident, ItemKind, PackageParts, Named, with_named, NodeId, Parts, plain_node, with_import, means, Key, IsSound, all_implies, Composition, imported, with_node, binding, names_of, Bindings, Root, kind_in, numbers_of, composed, EachAgrees, Agrees, Binds, sound_stands, grows_more, next_is, composition_imports, IsSuppliedAs, AllSupplied}
use Rattle.wac_resolution_statements.specs.declared.externs.Externs.{Externs}
use Rattle.wac_resolution_statements.specs.Externs.{imported_in, exported_in, ArePlaced}
use Rattle.wac_graph.specs.Node.{Node as GraphNode, import}
use Rattle.wac_resolution_statements.specs.Imports.{AddsImport}

-- names still agree with more nodes
each_still : (old new : Parts) (ns : Bindings NodeId) (ks : Bindings ItemKind) → ((n : ℕ) (k : ItemKind) → kind_in old.nodes n ≡ Some k → kind_in new.nodes n ≡ Some k) → EachAgrees old ns ks → EachAgrees new ns ks
each_still old new [] [] keep h = tt
each_still old new [] (k ∷ ks) keep h = absurd h
each_still old new (n ∷ ns) [] keep h = absurd h
each_still old new (n ∷ ns) (k ∷ ks) keep h = (record { name = h.0.name; place = h.0.place; kind = keep n.1.1.0 k.1.1 h.0.kind }, each_still old new ns ks keep h.1)

-- with one more import the names at root agree
pub agrees_imported : (old new : Parts) (root : Root) (name : List ℕ) (k : ItemKind) → new ≡ with_import old name k → IsSound new → Agrees old root → Agrees new root
agrees_imported old new root name k is sound h =
    let imports : Named ℕ = with_named old.imports name (length old.nodes) in
    record {
      nodes = sound_stands new sound;
      names = each_still old new root.nodes root.kinds (grows_more (record old { imports = imports }) new (plain_node (import name) k ∷ []) is (sound_stands new sound)).kinds h.names;
    }

-- the node exists
pub import_there : (old new : Parts) (name : List ℕ) (k : ItemKind) (n : ℕ) → new ≡ with_import old name k → n ≡ length old.nodes → n < length new.nodes
import_there old new name k n is number =
    let longer : length new.nodes ≡ length (old.nodes ++ plain_node (import name) k ∷ []) = ap (λ (g : Parts). length g.nodes) is in
    omega (arith, number, longer, length-append old.nodes (plain_node (import name) k ∷ []))

pub adds_import : (old mid new : Parts) (before after : Root) (x y : Externs) (id : Ident) (name : List ℕ) (span : Span) (k : ItemKind) (n : ℕ) → mid ≡ with_import old name k → n ≡ length old.nodes → Binds mid new before after id n
    → imported_in y ≡ with_named (imported_in x) name span → exported_in y ≡ exported_in x → AddsImport old new before after x y id name span k
adds_import old mid new before after x y id name span k n is number binds imported_at exported_at = record {
  unbound = binds.fresh;
  same = binds.grows.same ∙ ap (λ (g : Parts). record g { nodes = new.nodes }) is;
  agrees = binds.agrees;
  is = λ numbering.
      binds.is numbering
      ∙ ap (λ (g : Parts). binding (composed numbering g before) id.string n) is
      ∙ ap (λ (c : Composition). binding c id.string n) (composition_imports old (numbers_of before.nodes) name k numbering)
      ∙ ap (binding (with_node (composed numbering old before) (imported name) (means numbering old k)) id.string) (number ∙ sym (next_is numbering old (numbers_of before.nodes)));
  bound = binds.places;
  imported_at = imported_at;
  exported_at = exported_at;
}

-- ---- what is kept beside the graph

pub placed_imported : (old new : Parts) (before after : Root) (x y : Externs) (id : Ident) (name : List ℕ) (span : Span) (k : ItemKind) → ArePlaced old x → AddsImport old new before after x y id name span k → ArePlaced new y
placed_imported old new before after x y id name span k h a = record {
  imported =
      ap (λ (l : Named Span). names_of l) a.imported_at
      ∙ map_push (λ (e : List ℕ × Span). e.0) (imported_in x) (name, span)
      ∙ ap (λ (l : List (List ℕ)). l ++ name ∷ []) h.imported
      ∙ sym (map_push (λ (e : List ℕ × ℕ). e.0) old.imports (name, length old.nodes))
      ∙ sym (ap (λ (g : Parts). names_of g.imports) a.same);
  exported = ap (λ (l : Named Span). names_of l) a.exported_at ∙ h.exported ∙ sym (ap (λ (g : Parts). names_of g.exports) a.same);
}

-- packages are still held as they were supplied
pub supplied_imported : (packages : List (Key × PackageParts)) (old new : Parts) (nodes : List GraphNode) (imports : Named ℕ) → new ≡ record old { nodes = nodes; imports = imports } → AllSupplied packages old → AllSupplied packages new
supplied_imported packages old new nodes imports is h =
    subst (AllSupplied packages) (sym is)
    (all_implies (IsSuppliedAs packages old) (IsSuppliedAs packages (record old { nodes = nodes; imports = imports })) (λ p same. record { there = same.there; contents = same.contents }) old.packages h)
