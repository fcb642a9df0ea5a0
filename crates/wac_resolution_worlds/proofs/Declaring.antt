-- Interfaces and worlds that the document declares.
use Rattle.wac_resolution_worlds.proofs.Common.{◌≡◌, ℕ, List, Option, Some, refl, ap, subst, InterfaceDecl, ItemKind, InterfaceId, WorldId, Named, Parts, entry_means, declared_count, IsInterface, IsWorld, scope_of, context_of}
use Rattle.wac_ast_grammar.specs.Tree.{WorldItem}
use Rattle.wac_graph_types.specs.declared.kind.ItemKind.TheVariants as kinds
use Rattle.wac_graph_types.specs.declared.kind.«Type».TheVariants as types
use Rattle.wac_resolution_state.specs.declared.context.Context.{Context}
use Rattle.wac_resolution_worlds.specs.Made.{InterfaceMade}
use Rattle.wac_resolution_worlds.specs.WorldItems.{WorldMade}
use Rattle.wac_resolution_worlds.specs.Declarations.{id_text, InterfaceDeclared, WorldDeclared}

pub interface_declared : (context : Context) (old new : Parts) (root : Named ItemKind) (d : InterfaceDecl) (id : List ℕ) (i : InterfaceId) → id ≡ id_text context d.id.string
    → InterfaceMade context old new root (Some id) d.items i → InterfaceDeclared context old new root d (kinds.Ty (types.Interface i))
interface_declared context old new root d id i ids h = record {
  grows = h.grows;
  supplied = h.supplied;
  named = h.named;
  is = λ numbering. (
    entry_means numbering new i.0,
    subst (λ (o : Option (List ℕ)). IsInterface (context_of numbering context) (scope_of numbering old root) (declared_count old) o d.items (entry_means numbering new i.0) (declared_count new)) (ap Some ids) (h.is numbering),
    refl,
  );
}

pub world_declared : (context : Context) (old new : Parts) (root : Named ItemKind) (name : List ℕ) (items : List WorldItem) (id : List ℕ) (w : WorldId) → id ≡ id_text context name
    → WorldMade context old new root (Some id) items w → WorldDeclared context old new root name items (kinds.Ty (types.World w))
world_declared context old new root name items id w ids h = record {
  grows = h.grows;
  supplied = h.supplied;
  named = h.named;
  is = λ numbering. (
    entry_means numbering new w.0,
    subst (λ (o : Option (List ℕ)). IsWorld (context_of numbering context) (scope_of numbering old root) (declared_count old) o items (entry_means numbering new w.0) (declared_count new)) (ap Some ids) (h.is numbering),
    refl,
  );
}
