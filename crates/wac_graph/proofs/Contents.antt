-- A package that is copied in keeps its contents.
use Rattle.wac_graph.proofs.Common.{◌≡◌, ◌∙◌, ap, ℕ, List, [], ◌∷◌, length, refl, map, ItemKind, Meaning, meaning, PackageParts, IsPackage, Named, items_mean, ItemsNamed, package_world, package_instance, package_definitions}
use Rattle.wac_graph.specs.Moved.{moved, moved_items}
use Rattle.wac_graph_types.specs.declared.kind.ItemKind.TheVariants as kinds
use Rattle.wac_graph.specs.Graph.{Parts}
use Rattle.wac_graph.specs.Means.{means, entry_means, CopiesMean, KeepsKinds}
use Rattle.wac_graph.specs.Origin.{Numbering, copied}
use Rattle.wac_graph.specs.Package.{Key, HeldPackage, IsHeld}
use Rattle.wac_graph.specs.Packages.{Contents, contents_in, HoldsContents}

module _ (old new : Parts) (key : Key) (p : PackageParts) (mean : CopiesMean old new key p) (numbering : Numbering) where
  items : (ds : List (List ℕ × ItemKind)) → ItemsNamed p.types ds → items_mean (entry_means numbering new) (moved_items (length old.types) ds) ≡ map (λ d. (d.0, meaning (λ i. numbering (copied key i)) p.types d.1)) ds
  items [] h = refl
  items (d ∷ ds) h =
      let here : means numbering new (moved (length old.types) d.1) ≡ meaning (λ i. numbering (copied key i)) p.types d.1 = mean numbering d.1 h.0.0 in
      let rest : items_mean (entry_means numbering new) (moved_items (length old.types) ds) ≡ map (λ x. (x.0, meaning (λ i. numbering (copied key i)) p.types x.1)) ds = items ds h.1 in
      cc

contents : (a b : Contents) → a.world ≡ b.world → a.instance ≡ b.instance → a.definitions ≡ b.definitions → a ≡ b
contents a b w i d =
    ap (λ (m : Meaning). record { world = m; instance = a.instance; definitions = a.definitions }) w
    ∙ ap (λ (m : Meaning). record { world = b.world; instance = m; definitions = a.definitions }) i
    ∙ ap (λ (l : Named Meaning). record { world = b.world; instance = b.instance; definitions = l }) d

pub holds_contents : (old new : Parts) (key : Key) (p : PackageParts) → IsPackage p → CopiesMean old new key p → HoldsContents old new key p
holds_contents old new key p h mean numbering = contents _ _
    (mean numbering (kinds.Component p.world) (package_world p h).0)
    (mean numbering (kinds.Instance p.instance) (package_instance p h).0)
    (items old new key p mean numbering p.definitions (package_definitions p h))

-- ---- as the graph grows

kept_items : (old new : Parts) → KeepsKinds old new → (numbering : Numbering) (ds : List (List ℕ × ItemKind)) → ItemsNamed old.types ds → items_mean (entry_means numbering new) ds ≡ items_mean (entry_means numbering old) ds
kept_items old new kept numbering [] h = refl
kept_items old new kept numbering (d ∷ ds) h =
    let here : means numbering new d.1 ≡ means numbering old d.1 = kept numbering d.1 h.0.0 in
    let rest : items_mean (entry_means numbering new) ds ≡ items_mean (entry_means numbering old) ds = kept_items old new kept numbering ds h.1 in
    cc

-- a package that the graph holds keeps its contents
pub contents_kept : (old new : Parts) (p : HeldPackage) → KeepsKinds old new → IsHeld old.types p → (numbering : Numbering) → contents_in numbering new p ≡ contents_in numbering old p
contents_kept old new p kept h numbering = contents _ _
    (kept numbering (kinds.Component p.world) h.of_world.0)
    (kept numbering (kinds.Instance p.instance) h.of_instance.0)
    (kept_items old new kept numbering p.definitions h.of_definitions)
