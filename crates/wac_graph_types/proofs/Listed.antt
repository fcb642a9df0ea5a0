-- A map by name, entry by entry.
use Rattle.wac_graph_types.proofs.Common.{◌≡◌, ◌∙◌, ℕ, zero, suc, Some, List, [], ◌∷◌, refl, sym, ap, subst, length, String, string_bytes, slice_get, Global}
use Rattle.wac_graph_types.specs.declared.kind.ItemKind.{ItemKind}
use Rattle.wac_graph_types.specs.declared.entry.Entry.{Entry}
use Rattle.wac_graph_types.specs.Names.{by_name}
use Rattle.wac_graph_types.specs.Table.{Names, ItemsNamed}

pub listed_at : {X : Type 0} (es : List (String Global × X)) (k : ℕ) (name : String Global) (x : X) → slice_get es k ≡ Some (name, x) → slice_get (by_name es) k ≡ Some (string_bytes name, x)
listed_at [] k name x is = absurd (cc)
listed_at (e ∷ es) zero name x is = let here : e ≡ (name, x) = cc in ap (λ (y : String Global × _). Some (string_bytes y.0, y.1)) here
listed_at (e ∷ es) (suc k) name x is = listed_at es k name x is

pub listed_length : {X : Type 0} (es : List (String Global × X)) → length (by_name es) ≡ length es
listed_length [] = refl
listed_length (e ∷ es) = ap suc (listed_length es)

-- a definition of a package names an entry of its table
pub item_named : (es : List Entry) (ds : List (List ℕ × ItemKind)) (m : List (String Global × ItemKind)) (k : ℕ) (name : String Global) (kind : ItemKind)
    → ItemsNamed es ds → by_name m ≡ ds → slice_get m k ≡ Some (name, kind) → Names es kind
item_named es ds [] k name kind h is at = absurd (cc)
item_named es ds (d ∷ m) zero name kind h is at =
    let here : d ≡ (name, kind) = cc in
    (subst (λ (l : List (List ℕ × ItemKind)). ItemsNamed es l) (sym is ∙ ap (λ (x : String Global × ItemKind). (string_bytes x.0, x.1) ∷ by_name m) here) h).0
item_named es [] (d ∷ m) (suc k) name kind h is at = absurd (cc)
item_named es (c ∷ ds) (d ∷ m) (suc k) name kind h is at = item_named es ds m k name kind h.1 (cc) at
