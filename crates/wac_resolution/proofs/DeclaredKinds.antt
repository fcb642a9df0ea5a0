-- Kinds that type statements declare.
use Rattle.wac_resolution.proofs.Common.{◌≡◌, Some, Result, Ok, Err, sym, subst, IfOk, IfErr, InterfaceDecl, WorldDecl, TypeDecl, TypeStatement, ItemKind, an_interface, a_world, Meaning, Scope, kind_of, type_statement_of, Parts, means, declared_count, Numbering, error_model, InterfaceBroken, WorldBroken, KindBroken, root_scope, declared_id, IsInterface, IsWorld, values_of, scope_of, Root, composed, Agrees, scope_agrees, Context, AllSupplied, packages_in, context_of, grows_expands, supplied_grown}
use Rattle.wac_ast.specs.declared.type_statement.TypeStatement.{TypeStatement as CodeStatement}
use Rattle.wac_resolution_errors.specs.declared.error.Error.{Error as CodeError}
use Rattle.wac_resolution_rules.specs.BrokenDeclarations.{TypeDeclBroken}
use Rattle.wac_resolution_rules.specs.Declarations.{IsTypeDecl}
use Rattle.wac_resolution_types.specs.Declarations.{KindAdded}
use Rattle.wac_resolution_worlds.specs.Declarations.{InterfaceDeclared, WorldDeclared}
use Rattle.wac_resolution.specs.Definitions.{KindDeclared}

-- what holds in the scope of the kinds holds in the root scope of the composition
in_root : (P : Scope → Type 0) (numbering : Numbering) (g : Parts) (root : Root) → Agrees g root → P (scope_of numbering g (values_of root.kinds)) → P (root_scope (composed numbering g root))
in_root P numbering g root h p = subst P (sym (scope_agrees numbering g root h)) p

-- ---- the kind

pub interface_kind : (context : Context) (old new : Parts) (root : Root) (x : CodeStatement) (d : InterfaceDecl) (r : Result ItemKind CodeError) → type_statement_of x ≡ TypeStatement.interface d → Agrees old root
    → IfOk r (InterfaceDeclared context old new (values_of root.kinds) d) → IfOk r (KindDeclared context old new root (type_statement_of x))
interface_kind context old new root x d (Err e) is agrees h = tt
interface_kind context old new root x d (Ok k) is agrees h = subst (λ (s : TypeStatement). KindDeclared context old new root s k) (sym is) (record {
  grows = h.grows;
  supplied = h.supplied;
  named = h.named;
  is = λ numbering.
      in_root (λ scope. (entry : Meaning) × IsInterface (context_of numbering context) scope (declared_count old) (declared_id (context_of numbering context) d.id.string) d.items entry (declared_count new) × (means numbering new k ≡ kind_of an_interface entry))
      numbering old root agrees (h.is numbering);
})

pub world_kind : (context : Context) (old new : Parts) (root : Root) (x : CodeStatement) (d : WorldDecl) (r : Result ItemKind CodeError) → type_statement_of x ≡ TypeStatement.world d → Agrees old root
    → IfOk r (WorldDeclared context old new (values_of root.kinds) d.id.string d.items) → IfOk r (KindDeclared context old new root (type_statement_of x))
world_kind context old new root x d (Err e) is agrees h = tt
world_kind context old new root x d (Ok k) is agrees h = subst (λ (s : TypeStatement). KindDeclared context old new root s k) (sym is) (record {
  grows = h.grows;
  supplied = h.supplied;
  named = h.named;
  is = λ numbering.
      in_root (λ scope. (entry : Meaning) × IsWorld (context_of numbering context) scope (declared_count old) (declared_id (context_of numbering context) d.id.string) d.items entry (declared_count new) × (means numbering new k ≡ kind_of a_world entry))
      numbering old root agrees (h.is numbering);
})

pub type_kind : (context : Context) (old new : Parts) (root : Root) (x : CodeStatement) (d : TypeDecl) (r : Result ItemKind CodeError) → type_statement_of x ≡ TypeStatement.ty d → Agrees old root → AllSupplied (packages_in context) old
    → IfOk r (KindAdded old new (λ numbering m after. IsTypeDecl (scope_of numbering old (values_of root.kinds)) (declared_count old) d m after)) → IfOk r (KindDeclared context old new root (type_statement_of x))
type_kind context old new root x d (Err e) is agrees held h = tt
type_kind context old new root x d (Ok k) is agrees held h = subst (λ (s : TypeStatement). KindDeclared context old new root s k) (sym is) (record {
  grows = grows_expands old new h.grows;
  supplied = supplied_grown (packages_in context) old new h.grows held;
  named = h.named;
  is = λ numbering. in_root (λ scope. IsTypeDecl scope (declared_count old) d (means numbering new k) (declared_count new)) numbering old root agrees (h.is numbering);
})

-- ---- no kind

pub interface_breaks : (context : Context) (g : Parts) (root : Root) (x : CodeStatement) (d : InterfaceDecl) (r : Result ItemKind CodeError) → type_statement_of x ≡ TypeStatement.interface d → Agrees g root
    → IfErr r (λ e. (numbering : Numbering) → InterfaceBroken (context_of numbering context) (scope_of numbering g (values_of root.kinds)) (Some d.id.string) (declared_count g) d.items (error_model e))
    → IfErr r (λ e. (numbering : Numbering) → KindBroken (context_of numbering context) (composed numbering g root) (type_statement_of x) (error_model e))
interface_breaks context g root x d (Ok k) is agrees h = tt
interface_breaks context g root x d (Err e) is agrees h = λ numbering.
    subst (λ (s : TypeStatement). KindBroken (context_of numbering context) (composed numbering g root) s (error_model e)) (sym is)
    (in_root (λ scope. InterfaceBroken (context_of numbering context) scope (Some d.id.string) (declared_count g) d.items (error_model e)) numbering g root agrees (h numbering))

pub world_breaks : (context : Context) (g : Parts) (root : Root) (x : CodeStatement) (d : WorldDecl) (r : Result ItemKind CodeError) → type_statement_of x ≡ TypeStatement.world d → Agrees g root
    → IfErr r (λ e. (numbering : Numbering) → WorldBroken (context_of numbering context) (scope_of numbering g (values_of root.kinds)) d.id.string (declared_count g) d.items (error_model e))
    → IfErr r (λ e. (numbering : Numbering) → KindBroken (context_of numbering context) (composed numbering g root) (type_statement_of x) (error_model e))
world_breaks context g root x d (Ok k) is agrees h = tt
world_breaks context g root x d (Err e) is agrees h = λ numbering.
    subst (λ (s : TypeStatement). KindBroken (context_of numbering context) (composed numbering g root) s (error_model e)) (sym is)
    (in_root (λ scope. WorldBroken (context_of numbering context) scope d.id.string (declared_count g) d.items (error_model e)) numbering g root agrees (h numbering))

pub type_breaks : (context : Context) (g : Parts) (root : Root) (x : CodeStatement) (d : TypeDecl) (r : Result ItemKind CodeError) → type_statement_of x ≡ TypeStatement.ty d → Agrees g root
    → IfErr r (λ e. (numbering : Numbering) → TypeDeclBroken (scope_of numbering g (values_of root.kinds)) (declared_count g) d (error_model e))
    → IfErr r (λ e. (numbering : Numbering) → KindBroken (context_of numbering context) (composed numbering g root) (type_statement_of x) (error_model e))
type_breaks context g root x d (Ok k) is agrees h = tt
type_breaks context g root x d (Err e) is agrees h = λ numbering.
    subst (λ (s : TypeStatement). KindBroken (context_of numbering context) (composed numbering g root) s (error_model e)) (sym is)
    (in_root (λ scope. TypeDeclBroken scope (declared_count g) d (error_model e)) numbering g root agrees (h numbering))
