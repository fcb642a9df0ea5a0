-- A definition is added, exported and bound.
use Rattle.wac_resolution_statements.proofs.Common.{◌≡◌, ◌∙◌, ◌<◌, ℕ, List, [], ◌∷◌, ◌++◌, Option, Some, None, refl, sym, ap, subst, length, arith, slice_get, option_map, AllByRecursion, map_push, Span, Ident, ItemKind, Named, look_up, IsFresh, with_named, Names, Parts, plain_node, with_definition, means, Numbering, get_kept, all_more, Error, declaration_conflict, IsExported, Composition, binding, definition, with_node, with_export, names_of, next_of, Places, Root, composition_of, kind_in, Stands, NodesStand, numbers_of, composed, Agrees, Binds, composition_defines, next_is}
use Rattle.wac_resolution_statements.specs.declared.externs.Externs.{Externs}
use Rattle.wac_resolution_statements.specs.Externs.{imported_in, exported_in, ArePlaced}
use Rattle.wac_resolution_statements.specs.Exports.{GrowsExports}
use Rattle.wac_resolution_statements.proofs.Checks.{stands_too}
use Rattle.wac_graph.specs.Node.{Node as GraphNode, definition as defined_form}
use Rattle.wac_resolution_state.specs.NodeGrowth.{GrowsNodes}
use Rattle.wac_resolution_statements.specs.Defined.{IsDefined}

-- the identifier was exported before
pub exported_before : (g : Parts) (x : Externs) (id : Ident) (export : Span) (e : Error) → ArePlaced g x → look_up id.string (exported_in x) ≡ Some export → e ≡ declaration_conflict id.string id.span export
    → (numbering : Numbering) (declared : Named ℕ) (all : Places) → all.exported ≡ exported_in x → IsExported (composition_of numbering g declared) all id e
exported_before g x id export e placed is error_is numbering declared all same =
    let there = stands_too id.string (exported_in x) g.exports export placed.exported is in
    (there.0, export, there.1, ap (look_up id.string) same ∙ is, error_is)

-- ---- the node

each_stands : (old : Parts) (nodes : List GraphNode) (exports : Named ℕ) (ns : List GraphNode) → AllByRecursion (Stands old) ns → AllByRecursion (Stands (record old { nodes = nodes; exports = exports })) ns
each_stands old nodes exports [] h = tt
each_stands old nodes exports (n ∷ ns) h = (record { kind = h.0.kind; held = h.0.held }, each_stands old nodes exports ns h.1)

definition_stands : (old : Parts) (name : List ℕ) (k : ItemKind) → NodesStand old → Names old.types k → NodesStand (with_definition old name k)
definition_stands old name k h named =
    let new = with_definition old name k in
    all_more (Stands new) old.nodes (plain_node defined_form k) (each_stands old new.nodes new.exports old.nodes h) (record { kind = named; held = tt })

kind_kept : (ns : List GraphNode) (x : GraphNode) (n : ℕ) (k : ItemKind) → kind_in ns n ≡ Some k → kind_in (ns ++ x ∷ []) n ≡ Some k
kind_kept ns x n k is = go (slice_get ns n) refl is
  where
    go : (o : Option GraphNode) → slice_get ns n ≡ o → option_map (λ (y : GraphNode). y.kind) o ≡ Some k → kind_in (ns ++ x ∷ []) n ≡ Some k
    go None at h = absurd (cc h)
    go (Some y) at h = ap (option_map (λ (z : GraphNode). z.kind)) (get_kept ns (x ∷ []) n y at) ∙ h

pub definition_grows : (old mid : Parts) (name : List ℕ) (k : ItemKind) → NodesStand old → Names old.types k → mid ≡ with_definition old name k → GrowsExports old mid
definition_grows old mid name k h named is = subst (GrowsExports old) (sym is) (record {
  same = refl;
  kinds = λ n l at. kind_kept old.nodes (plain_node defined_form k) n l at;
  stand = definition_stands old name k h named;
})

length_more : {X : Type 0} (xs : List X) (x : X) → length xs < length (xs ++ x ∷ [])
length_more [] x = omega arith
length_more (y ∷ ys) x = let rest : length ys < length (ys ++ x ∷ []) = length_more ys x in omega arith

-- the new node exists
pub definition_there : (old mid : Parts) (name : List ℕ) (k : ItemKind) (n : ℕ) → mid ≡ with_definition old name k → n ≡ length old.nodes → n < length mid.nodes
definition_there old mid name k n is number =
    subst (λ (m : ℕ). m < length mid.nodes) (sym number) (subst (λ (g : Parts). length old.nodes < length g.nodes) (sym is) (length_more old.nodes (plain_node defined_form k)))

-- ---- what is named

then_named : (old mid new : Parts) → GrowsExports old mid → GrowsNodes mid new → GrowsExports old new
then_named old mid new p q = record {
  same = q.same ∙ ap (λ (g : Parts). record g { nodes = new.nodes }) p.same ∙ ap (λ (xs : Named ℕ). record old { nodes = new.nodes; exports = xs }) (sym (ap (λ (g : Parts). g.exports) q.same));
  kinds = λ n k is. q.kinds n k (p.kinds n k is);
  stand = q.stand;
}

names_with : {X Y : Type 0} (xs : Named X) (ys : Named Y) (name : List ℕ) (x : X) (y : Y) → names_of xs ≡ names_of ys → names_of (with_named xs name x) ≡ names_of (with_named ys name y)
names_with {X} {Y} xs ys name x y h =
    map_push (λ (e : List ℕ × X). e.0) xs (name, x) ∙ ap (λ (l : List (List ℕ)). l ++ name ∷ []) h ∙ sym (map_push (λ (e : List ℕ × Y). e.0) ys (name, y))

pub defined : (old mid new : Parts) (before after : Root) (x y : Externs) (id : Ident) (k : ItemKind) (n : ℕ) → Agrees old before → ArePlaced old x → Names old.types k
    → IsFresh id.string old.exports → mid ≡ with_definition old id.string k → n ≡ length old.nodes
    → exported_in y ≡ with_named (exported_in x) id.string id.span → imported_in y ≡ imported_in x → Binds mid new before after id n → IsDefined old new before after x y id k
defined old mid new before after x y id k n agrees placed named unexported is number exported imported b = record {
  grows = grows;
  agrees = b.agrees;
  placed = record {
    imported = ap (λ (l : Named Span). names_of l) imported ∙ placed.imported ∙ sym (ap (λ (g : Parts). names_of g.imports) grows.same);
    exported =
        ap (λ (l : Named Span). names_of l) exported ∙ names_with (exported_in x) old.exports id.string id.span (length old.nodes) placed.exported
        ∙ sym (ap (λ (g : Parts). names_of g.exports) is) ∙ sym (ap (λ (g : Parts). names_of g.exports) b.grows.same);
  };
  defines = λ numbering. (
    unexported,
    b.fresh,
    b.is numbering
        ∙ ap (λ (g : Parts). binding (composed numbering g before) id.string n) is
        ∙ ap (λ (c : Composition). binding c id.string n) (composition_defines old (numbers_of before.nodes) id.string k numbering)
        ∙ ap (binding (with_export (with_node (composed numbering old before) definition (means numbering old k)) id.string (next_of (composed numbering old before))) id.string) (number ∙ sym (next_is numbering old (numbers_of before.nodes))),
  );
  bound = b.places;
  imported = imported;
  exported = exported;
}
  where
    grows : GrowsExports old new
    grows = then_named old mid new (definition_grows old mid id.string k agrees.nodes named is) b.grows
