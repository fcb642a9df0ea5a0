-- What resolving begins with: an empty graph, no names and no places.
use Rattle.wac_resolution.proofs.Common.{◌≡◌, ◌∙◌, ℕ, [], refl, sym, ap, subst, Span, Named, Parts, empty, declared_count, Numbering, start, placed_start, Bindings, places_of, Root, composition_of, numbers_of, composed, Agrees, Context, AllSupplied, packages_in, Externs, imported_in, exported_in, Stand, placed_in}
use Rattle.wac_graph.specs.Means.{own_from}
use Rattle.wac_graph.specs.declared.node.NodeId.{NodeId}
use Rattle.wac_resolution_rules.specs.Find.{names_of}

-- the graph, the names at root and the places are empty
pub record IsStart (g : Parts) (root : Root) (x : Externs) : Type 0 where
  pub graph : g ≡ empty
  pub nodes : root.nodes ≡ []
  pub kinds : root.kinds ≡ []
  pub imported : imported_in x ≡ []
  pub exported : exported_in x ≡ []

root_is : (root : Root) → root.nodes ≡ [] → root.kinds ≡ [] → root ≡ record { nodes = []; kinds = [] }
root_is root nodes kinds = λ i. record { nodes = nodes i; kinds = kinds i }

start_agrees : (root : Root) → root.nodes ≡ [] → root.kinds ≡ [] → Agrees empty root
start_agrees root nodes kinds = subst (λ (r : Root). Agrees empty r) (sym (root_is root nodes kinds)) (record { nodes = tt; names = tt })

pub start_stands : (context : Context) (g : Parts) (root : Root) (x : Externs) → IsStart g root x → Stand context g root x
start_stands context g root x h = record {
  agrees = subst (λ (p : Parts). Agrees p root) (sym h.graph) (start_agrees root h.nodes h.kinds);
  placed = record {
    imported = ap (λ (l : Named Span). names_of l) h.imported ∙ ap (λ (p : Parts). names_of p.imports) (sym h.graph);
    exported = ap (λ (l : Named Span). names_of l) h.exported ∙ ap (λ (p : Parts). names_of p.exports) (sym h.graph);
  };
  supplied = subst (λ (p : Parts). AllSupplied (packages_in context) p) (sym h.graph) tt;
}

none_declared : declared_count empty ≡ 0
unfolding own_from
none_declared = refl

start_composed : (numbering : Numbering) (g : Parts) (root : Root) (x : Externs) → IsStart g root x → composed numbering g root ≡ start
start_composed numbering g root x h =
    ap (λ (p : Parts). composition_of numbering p (numbers_of root.nodes)) h.graph
    ∙ ap (λ (l : Bindings NodeId). composition_of numbering empty (numbers_of l)) h.nodes
    ∙ ap (λ (n : ℕ). record start { resources = n }) none_declared

pub start_placed : (numbering : Numbering) (g : Parts) (root : Root) (x : Externs) → IsStart g root x → placed_in numbering g root x ≡ placed_start start
start_placed numbering g root x h =
    let composition = start_composed numbering g root x h in
    let bound = ap (λ (l : Bindings NodeId). places_of l) h.nodes in
    λ i. record { composition = composition i; places = record { bound = bound i; imported = h.imported i; exported = h.exported i } }
