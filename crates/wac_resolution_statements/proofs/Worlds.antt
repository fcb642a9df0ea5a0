-- Kinds that are no world types.
use Rattle.wac_resolution_statements.proofs.Common.{◌≡◌, None, refl, WorldId, ItemKind, Parts, means, Numbering, world_of}
use Rattle.wac_graph_types.specs.declared.kind.ItemKind.TheVariants as kinds
use Rattle.wac_graph_types.specs.declared.kind.«Type».TheVariants as types
use Rattle.wac_resolution_state.proofs.Scopes.{memory_model}

-- what is no world type
pub no_world : (numbering : Numbering) (g : Parts) (k : ItemKind) → ((w : WorldId) → k ≡ kinds.Ty (types.World w) → ⊥) → world_of (means numbering g k) ≡ None
no_world numbering g (kinds.Ty (types.Resource r)) p = refl
no_world numbering g (kinds.Ty (types.Func f)) p = refl
no_world numbering g (kinds.Ty (types.Value v)) p = refl
no_world numbering g (kinds.Ty (types.Interface i)) p = refl
no_world numbering g (kinds.Ty (types.World w)) p = absurd (p w refl)
no_world numbering g (kinds.Ty (types.Module m)) p = refl
no_world numbering g (kinds.Func f) p = refl
no_world numbering g (kinds.Instance i) p = refl
no_world numbering g (kinds.Component w) p = refl
no_world numbering g (kinds.Module m) p = refl
no_world numbering g (kinds.Value v) p = refl

pub ruleset worlds_found = (no_world, memory_model)
