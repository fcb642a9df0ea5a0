-- Kinds that are no interfaces.
use Rattle.wac_resolution_worlds.proofs.Common.{◌≡◌, refl, InterfaceId, ItemKind, IsNoneOf, is_interface_form, Parts, means, Numbering, memory_model}
use Rattle.wac_graph_types.specs.declared.kind.ItemKind.TheVariants as kinds
use Rattle.wac_graph_types.specs.declared.kind.«Type».TheVariants as types

-- what is no interface
pub not_interface : (numbering : Numbering) (g : Parts) (k : ItemKind) → ((i : InterfaceId) → k ≡ kinds.Ty (types.Interface i) → ⊥) → IsNoneOf is_interface_form (means numbering g k)
not_interface numbering g (kinds.Ty (types.Resource r)) p = refl
not_interface numbering g (kinds.Ty (types.Func f)) p = refl
not_interface numbering g (kinds.Ty (types.Value v)) p = refl
not_interface numbering g (kinds.Ty (types.Interface i)) p = absurd (p i refl)
not_interface numbering g (kinds.Ty (types.World w)) p = refl
not_interface numbering g (kinds.Ty (types.Module m)) p = refl
not_interface numbering g (kinds.Func f) p = refl
not_interface numbering g (kinds.Instance i) p = refl
not_interface numbering g (kinds.Component w) p = refl
not_interface numbering g (kinds.Module m) p = refl
not_interface numbering g (kinds.Value v) p = refl

pub ruleset interfaces_found = (not_interface, memory_model)
