-- Declarations at root, by what they declare.
use Rattle.wac_resolution_types.proofs.Common.{◌≡◌, ℕ, sym, subst, ItemKind, ValueType, Meaning, Named, Parts, declared_count, Numbering, type_decl_of, Error, IsTypeDecl, TypeDeclBroken, scope_of}
use Rattle.wac_graph_types.specs.declared.kind.ItemKind.TheVariants as kinds
use Rattle.wac_graph_types.specs.declared.kind.«Type».TheVariants as types
use Rattle.wac_ast_types.specs.declared.type_decl.TypeDecl.{TypeDecl}
use Rattle.wac_resolution_types.specs.Declarations.{ValueAdded, KindAdded}

-- a declaration of this kind
abbrev pub Declares : Parts → Parts → Named ItemKind → TypeDecl → ItemKind → Type 0
Declares old new ks x k = KindAdded old new (λ numbering m after. IsTypeDecl (scope_of numbering old ks) (declared_count old) (type_decl_of x) m after) k

-- of a type of values
pub value_declared : (old new : Parts) (ks : Named ItemKind) (x y : TypeDecl) (holds : Numbering → Meaning → Type 0) (v : ValueType) → x ≡ y
    → ((numbering : Numbering) (m : Meaning) (after : ℕ) → holds numbering m → after ≡ declared_count old → IsTypeDecl (scope_of numbering old ks) (declared_count old) (type_decl_of y) m after)
    → ValueAdded old new holds v → Declares old new ks x (kinds.Ty (types.Value v))
value_declared old new ks x y holds v is declares h = subst (λ (z : TypeDecl). Declares old new ks z (kinds.Ty (types.Value v))) (sym is) (record {
  grows = h.grows.grows;
  named = h.named;
  is = λ numbering. declares numbering _ _ (h.is numbering) h.grows.count;
})

pub declared : (old new : Parts) (ks : Named ItemKind) (x y : TypeDecl) (k : ItemKind) → x ≡ y → Declares old new ks y k → Declares old new ks x k
declared old new ks x y k is h = subst (λ (z : TypeDecl). Declares old new ks z k) (sym is) h

pub declaration_breaks : (g : Parts) (ks : Named ItemKind) (x y : TypeDecl) (e : Error) → x ≡ y
    → ((numbering : Numbering) → TypeDeclBroken (scope_of numbering g ks) (declared_count g) (type_decl_of y) e) → (numbering : Numbering) → TypeDeclBroken (scope_of numbering g ks) (declared_count g) (type_decl_of x) e
declaration_breaks g ks x y e is h numbering = subst (λ (z : TypeDecl). TypeDeclBroken (scope_of numbering g ks) (declared_count g) (type_decl_of z) e) (sym is) (h numbering)
