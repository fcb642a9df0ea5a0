-- Maps by name, seen as the kinds in an entry.
use Rattle.wac_graph_types.proofs.Common.{◌≡◌, ◌∙◌, ℕ, List, [], ◌∷◌, Option, length, map, refl, sym, ap, suc, String, slice_get, option_map, Global, slice_get-map}
use Rattle.wac_graph_types.specs.declared.kind.ItemKind.{ItemKind}
use Rattle.wac_graph_types.specs.Entry.{export_children}

pub export_count : (es : List (String Global × ItemKind)) → length (export_children es) ≡ length es
export_count [] = refl
export_count (e ∷ es) = ap suc (export_count es)

-- what is read of a list at a place, mapped, is read there of the mapped list
pub mapped_at : {X Y : Type 0} (f : X → Y) (xs : List X) (k : ℕ) (o : Option X) → o ≡ slice_get xs k → option_map f o ≡ slice_get (map f xs) k
mapped_at f xs k o is = ap (option_map f) is ∙ sym (slice_get-map f xs k)
