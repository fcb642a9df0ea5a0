-- What the types of imports mean.
use Rattle.wac_resolution.proofs.Common.{◌≡◌, [], None, refl, sym, subst, Ident, PackagePath, FuncType, InlineInterface, ImportType, ItemKind, Scope, StandsFor, entry_of, Parts, means, entry_means, declared_count, Numbering, Error, InterfaceBroken, root_scope, IsInterface, values_of, scope_of, KindIs, Root, composed, Agrees, scope_agrees, items_named, Context, AllSupplied, Found, packages_in, context_of, expands_self, grows_expands, supplied_grown, InterfaceMade}
use Rattle.wac_graph_types.specs.declared.kind.FuncTypeId.{FuncTypeId}
use Rattle.wac_graph_types.specs.declared.kind.FuncKind.TheVariants as funcs
use Rattle.wac_graph_types.specs.declared.kind.InterfaceId.{InterfaceId}
use Rattle.wac_graph_types.specs.declared.kind.ItemKind.TheVariants as kinds
use Rattle.wac_resolution_rules.specs.BrokenBodies.{PathBroken}
use Rattle.wac_resolution_rules.specs.BrokenTypes.{IsUndefined, FuncBroken}
use Rattle.wac_resolution_rules.specs.Paths.{LeadsTo}
use Rattle.wac_resolution_rules.specs.Types.{IsFunc}
use Rattle.wac_resolution_worlds.specs.Referred.{NewFunc}
use Rattle.wac_resolution.specs.ImportTypes.{FuncMade, FuncTypeBreaks, ImportMade, ImportTypeBreaks}

module _ (context : Context) (old : Parts) (root : Root) (agrees : Agrees old root) where
  -- what holds in the scope of the code holds at root
  at_root : (numbering : Numbering) (P : Scope → Type 0) → P (scope_of numbering old (values_of root.kinds)) → P (root_scope (composed numbering old root))
  at_root numbering P h = subst P (sym (scope_agrees numbering old root agrees)) h

  -- ---- kinds

  func_imported : (new : Parts) (x : ImportType) (f : FuncType) (id : FuncTypeId) → x ≡ ImportType.func f → AllSupplied (packages_in context) old → NewFunc old new (values_of root.kinds) f id → ImportMade context old new root x (kinds.Func id)
  func_imported new x f id is held h = subst (λ (y : ImportType). ImportMade context old new root y (kinds.Func id)) (sym is) (record {
    grows = grows_expands old new h.grows.grows;
    supplied = supplied_grown (packages_in context) old new h.grows.grows held;
    named = h.named;
    is = λ numbering rules. (entry_means numbering new id.0, at_root numbering (λ (s : Scope). IsFunc s f (entry_means numbering new id.0)) (h.is numbering), refl, h.grows.count);
  })

  pub func_kind_imported : (new : Parts) (x : ImportType) (f : FuncType) (k : ItemKind) → x ≡ ImportType.func f → AllSupplied (packages_in context) old → FuncMade old new root f k → ImportMade context old new root x k
  func_kind_imported new x f k is held made = subst (λ (j : ItemKind). ImportMade context old new root x j) (sym made.1) (func_imported new x f made.0 is held made.2)

  -- an interface that is written in place
  pub inline_imported : (new : Parts) (x : ImportType) (i : InlineInterface) (id : InterfaceId) → x ≡ ImportType.interface i → InterfaceMade context old new (values_of root.kinds) None i.items id → ImportMade context old new root x (kinds.Instance id)
  inline_imported new x i id is h = subst (λ (y : ImportType). ImportMade context old new root y (kinds.Instance id)) (sym is) (record {
    grows = h.grows;
    supplied = h.supplied;
    named = h.named;
    is = λ numbering rules. (
      entry_of (means numbering new (kinds.Instance id)),
      at_root numbering (λ (s : Scope). IsInterface (context_of numbering context) s (declared_count old) None i.items (entry_of (means numbering new (kinds.Instance id))) (declared_count new)) (h.is numbering),
      refl,
    );
  })

  pub path_imported : (new : Parts) (x : ImportType) (p : PackagePath) (k : ItemKind) → x ≡ ImportType.path p
      → Found (packages_in context) old new (λ numbering m. LeadsTo (context_of numbering context) (scope_of numbering old (values_of root.kinds)) p m) k → ImportMade context old new root x k
  path_imported new x p k is h = subst (λ (y : ImportType). ImportMade context old new root y k) (sym is) (record {
    grows = h.grows;
    supplied = h.supplied;
    named = h.named;
    is = λ numbering rules. (at_root numbering (λ (s : Scope). LeadsTo (context_of numbering context) s p (means numbering new k)) (h.is numbering), h.count);
  })

  pub ident_imported : (x : ImportType) (id : Ident) (k : ItemKind) → x ≡ ImportType.ident id → AllSupplied (packages_in context) old → KindIs (values_of root.kinds) id k → ImportMade context old old root x k
  ident_imported x id k is held h = subst (λ (y : ImportType). ImportMade context old old root y k) (sym is) (record {
    grows = expands_self old;
    supplied = held;
    named = h.named old.types (items_named old root agrees);
    is = λ numbering rules. (at_root numbering (λ (s : Scope). StandsFor s id.string (means numbering old k)) (h.is numbering old), refl);
  })

  -- ---- errors

  pub func_breaks : (x : ImportType) (f : FuncType) (e : Error) → x ≡ ImportType.func f → FuncTypeBreaks old root f e → ImportTypeBreaks context old root x e
  func_breaks x f e is h = subst (λ (y : ImportType). ImportTypeBreaks context old root y e) (sym is) (λ numbering rules. at_root numbering (λ (s : Scope). FuncBroken funcs.Free s [] f e) (h numbering))

  pub inline_breaks : (x : ImportType) (i : InlineInterface) (e : Error) → x ≡ ImportType.interface i
      → ((numbering : Numbering) → InterfaceBroken (context_of numbering context) (scope_of numbering old (values_of root.kinds)) None (declared_count old) i.items e) → ImportTypeBreaks context old root x e
  inline_breaks x i e is h =
      subst (λ (y : ImportType). ImportTypeBreaks context old root y e) (sym is) (λ numbering rules. at_root numbering (λ (s : Scope). InterfaceBroken (context_of numbering context) s None (declared_count old) i.items e) (h numbering))

  pub path_breaks : (x : ImportType) (p : PackagePath) (e : Error) → x ≡ ImportType.path p → ((numbering : Numbering) → PathBroken (context_of numbering context) (scope_of numbering old (values_of root.kinds)) p e) → ImportTypeBreaks context old root x e
  path_breaks x p e is h = subst (λ (y : ImportType). ImportTypeBreaks context old root y e) (sym is) (λ numbering rules. at_root numbering (λ (s : Scope). PathBroken (context_of numbering context) s p e) (h numbering))

  pub ident_breaks : (x : ImportType) (id : Ident) (e : Error) → x ≡ ImportType.ident id → ((numbering : Numbering) (g : Parts) → IsUndefined (scope_of numbering g (values_of root.kinds)) id e) → ImportTypeBreaks context old root x e
  ident_breaks x id e is h = subst (λ (y : ImportType). ImportTypeBreaks context old root y e) (sym is) (λ numbering rules. at_root numbering (λ (s : Scope). IsUndefined s id e) (h numbering old))
