-- Aliases, by what they alias.
use Rattle.wac_resolution_types.proofs.Common.{◌≡◌, ℕ, List, [], Option, Some, None, refl, sym, subst, Ident, Ty, ItemKind, ValueType, FuncTypeId, Meaning, Named, alias_type, Parts, means, entry_means, declared_count, Numbering, ty_of, func_type_of, type_alias_kind_of, Error, HasType, IsFuncWith, alone, IsTypeAlias, IsAlias, FuncBroken, TypeAliasBroken, AliasBroken, scope_of, KindIs}
use Rattle.wac_graph_types.specs.declared.kind.ItemKind.TheVariants as kinds
use Rattle.wac_graph_types.specs.declared.kind.«Type».TheVariants as types
use Rattle.wac_graph_types.specs.declared.kind.FuncKind.TheVariants as funcs
use Rattle.wac_ast_base.specs.declared.names.Ident.{Ident as CodeIdent}
use Rattle.wac_ast_types.specs.declared.types.Type as code
use Rattle.wac_ast_types.specs.declared.types.«Type».{«Type»}
use Rattle.wac_ast_types.specs.declared.func_type.FuncType.{FuncType}
use Rattle.wac_ast_types.specs.declared.type_alias.TypeAliasKind.{TypeAliasKind}
use Rattle.wac_ast_types.specs.declared.type_alias.TypeAliasKind.TheVariants as aliases
use Rattle.wac_resolution_types.specs.declared.place.Place.{Place}
use Rattle.wac_resolution_types.specs.Funcs.{types_named, FuncIs}
use Rattle.wac_resolution_types.specs.Declarations.{aliasing_at, made_at, IsAliased, ValueAdded, KindAdded}

-- a type that is no identifier
pub not_alone : (x : «Type») → ((id : CodeIdent) → x ≡ code.Ident id → ⊥) → alone (ty_of x) ≡ None
not_alone (code.U8 s) h = refl
not_alone (code.S8 s) h = refl
not_alone (code.U16 s) h = refl
not_alone (code.S16 s) h = refl
not_alone (code.U32 s) h = refl
not_alone (code.S32 s) h = refl
not_alone (code.U64 s) h = refl
not_alone (code.S64 s) h = refl
not_alone (code.F32 s) h = refl
not_alone (code.F64 s) h = refl
not_alone (code.Char s) h = refl
not_alone (code.Bool s) h = refl
not_alone (code.String s) h = refl
not_alone (code.Tuple' shape row s) h = refl
not_alone (code.List' p t s) h = refl
not_alone (code.Option' p t s) h = refl
not_alone (code.Result' ok err s) h = refl
not_alone (code.Borrow x s) h = refl
not_alone (code.Stream' held s) h = refl
not_alone (code.Future' held s) h = refl
not_alone (code.ErrorContext s) h = refl
not_alone (code.Ident x) h = absurd (h x refl)

-- an alias of an identifier
pub name_aliased : (old new : Parts) (ks : Named ItemKind) (place : Place) (name : List ℕ) (x : Ident) (k made : ItemKind) → KindIs ks x k → IsAliased old new (made_at place old name) k made
    → KindAdded old new (λ numbering m after. IsTypeAlias (aliasing_at place numbering) (scope_of numbering old ks) (declared_count old) name (Some x) (Ty.ident x) m after) made
name_aliased old new ks place name x k made h a = record {
  grows = a.grows;
  named = a.named;
  is = λ numbering. (means numbering old k, h.is numbering old, a.is numbering);
}

-- the same, by the identifier that the type is
pub as_alone : (old new : Parts) (ks : Named ItemKind) (place : Place) (name : List ℕ) (o : Option Ident) (x : Ident) (t : Ty) (k : ItemKind) → Some x ≡ o → KindAdded old new (λ numbering m after. IsTypeAlias (aliasing_at place numbering) (scope_of numbering old ks) (declared_count old) name (Some x) (Ty.ident x) m after) k
    → KindAdded old new (λ numbering m after. IsTypeAlias (aliasing_at place numbering) (scope_of numbering old ks) (declared_count old) name o t m after) k
as_alone old new ks place name o x t k is h = subst (λ (p : Option Ident). KindAdded old new (λ numbering m after. IsTypeAlias (aliasing_at place numbering) (scope_of numbering old ks) (declared_count old) name p t m after) k) is h

pub alone_breaks : (g : Parts) (ks : Named ItemKind) (place : Place) (name : List ℕ) (o : Option Ident) (x : Ident) (t : Ty) (e : Error) → Some x ≡ o
    → ((numbering : Numbering) → TypeAliasBroken (aliasing_at place numbering) (scope_of numbering g ks) (declared_count g) name (Some x) (Ty.ident x) e) → (numbering : Numbering) → TypeAliasBroken (aliasing_at place numbering) (scope_of numbering g ks) (declared_count g) name o t e
alone_breaks g ks place name o x t e is h numbering = subst (λ (p : Option Ident). TypeAliasBroken (aliasing_at place numbering) (scope_of numbering g ks) (declared_count g) name p t e) is (h numbering)

-- an expression
pub expression_aliased : (old new : Parts) (ks : Named ItemKind) (place : Place) (name : List ℕ) (o : Option Ident) (t : Ty) (v : ValueType) → None ≡ o → ValueAdded old new (λ numbering m. (inner : Meaning) × HasType (scope_of numbering old ks) t inner × (m ≡ alias_type inner)) v
    → KindAdded old new (λ numbering m after. IsTypeAlias (aliasing_at place numbering) (scope_of numbering old ks) (declared_count old) name o t m after) (kinds.Ty (types.Value v))
expression_aliased old new ks place name o t v none h = record {
  grows = h.grows.grows;
  named = h.named;
  is = λ numbering.
      let p = h.is numbering in
      subst (λ (q : Option Ident). IsTypeAlias (aliasing_at place numbering) (scope_of numbering old ks) (declared_count old) name q t (means numbering new (kinds.Ty (types.Value v))) (declared_count new)) none
      (p.0, p.1, p.2, h.grows.count);
}

pub expression_breaks : (g : Parts) (ks : Named ItemKind) (place : Place) (name : List ℕ) (o : Option Ident) (t : Ty) (e : Error) → None ≡ o
    → ((numbering : Numbering) → TypeAliasBroken (aliasing_at place numbering) (scope_of numbering g ks) (declared_count g) name None t e) → (numbering : Numbering) → TypeAliasBroken (aliasing_at place numbering) (scope_of numbering g ks) (declared_count g) name o t e
expression_breaks g ks place name o t e none h numbering = subst (λ (p : Option Ident). TypeAliasBroken (aliasing_at place numbering) (scope_of numbering g ks) (declared_count g) name p t e) none (h numbering)

-- a function type
pub func_aliased : (old new : Parts) (ks : Named ItemKind) (place : Place) (name : List ℕ) (first : Named ValueType) (x : TypeAliasKind) (f : FuncType) (id : FuncTypeId) → first ≡ [] → x ≡ aliases.Func f → FuncIs old new ks first (func_type_of f) id
    → KindAdded old new (λ numbering m after. IsAlias (aliasing_at place numbering) (scope_of numbering old ks) (declared_count old) name (type_alias_kind_of x) m after) (kinds.Ty (types.Func id))
func_aliased old new ks place name first x f id none is h =
    subst (λ (y : TypeAliasKind). KindAdded old new (λ numbering m after. IsAlias (aliasing_at place numbering) (scope_of numbering old ks) (declared_count old) name (type_alias_kind_of y) m after) (kinds.Ty (types.Func id))) (sym is) (record {
      grows = h.grows.grows;
      named = h.named;
      is = λ numbering. (entry_means numbering new id.0, subst (λ (l : Named ValueType). IsFuncWith (scope_of numbering old ks) (types_named numbering old l) (func_type_of f) (entry_means numbering new id.0)) none (h.is numbering), refl, h.grows.count);
    })

pub func_alias_breaks : (g : Parts) (ks : Named ItemKind) (place : Place) (name : List ℕ) (first : Named ValueType) (x : TypeAliasKind) (f : FuncType) (e : Error) → first ≡ [] → x ≡ aliases.Func f
    → ((numbering : Numbering) → FuncBroken funcs.Free (scope_of numbering g ks) (types_named numbering g first) (func_type_of f) e)
    → (numbering : Numbering) → AliasBroken (aliasing_at place numbering) (scope_of numbering g ks) (declared_count g) name (type_alias_kind_of x) e
func_alias_breaks g ks place name first x f e none is h numbering =
    subst (λ (y : TypeAliasKind). AliasBroken (aliasing_at place numbering) (scope_of numbering g ks) (declared_count g) name (type_alias_kind_of y) e) (sym is)
    (subst (λ (l : Named ValueType). FuncBroken funcs.Free (scope_of numbering g ks) (types_named numbering g l) (func_type_of f) e) none (h numbering))

-- a type
pub type_aliased : (old new : Parts) (ks : Named ItemKind) (place : Place) (name : List ℕ) (x : TypeAliasKind) (t : «Type») (k : ItemKind) → x ≡ aliases.Ty t
    → KindAdded old new (λ numbering m after. IsTypeAlias (aliasing_at place numbering) (scope_of numbering old ks) (declared_count old) name (alone (ty_of t)) (ty_of t) m after) k
    → KindAdded old new (λ numbering m after. IsAlias (aliasing_at place numbering) (scope_of numbering old ks) (declared_count old) name (type_alias_kind_of x) m after) k
type_aliased old new ks place name x t k is h =
    subst (λ (y : TypeAliasKind). KindAdded old new (λ numbering m after. IsAlias (aliasing_at place numbering) (scope_of numbering old ks) (declared_count old) name (type_alias_kind_of y) m after) k) (sym is) h

pub type_alias_breaks : (g : Parts) (ks : Named ItemKind) (place : Place) (name : List ℕ) (x : TypeAliasKind) (t : «Type») (e : Error) → x ≡ aliases.Ty t
    → ((numbering : Numbering) → TypeAliasBroken (aliasing_at place numbering) (scope_of numbering g ks) (declared_count g) name (alone (ty_of t)) (ty_of t) e)
    → (numbering : Numbering) → AliasBroken (aliasing_at place numbering) (scope_of numbering g ks) (declared_count g) name (type_alias_kind_of x) e
type_alias_breaks g ks place name x t e is h numbering = subst (λ (y : TypeAliasKind). AliasBroken (aliasing_at place numbering) (scope_of numbering g ks) (declared_count g) name (type_alias_kind_of y) e) (sym is) (h numbering)
