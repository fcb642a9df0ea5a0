-- In a body each name of the scope is among the externs, so a name that is fresh there is fresh in the scope: a `use` needs no second test.
use Rattle.wac_resolution_rules.proofs.Common.{◌≡◌, ℕ, suc, List, [], ◌∷◌, ◌++◌, Some, None, Bool, true, false, cond, refl, sym, ap, subst, bytes_eq, ExternKind, func, a_resource, Meaning, Named, Scope, look_up, IsFresh, with_named, Steps, kind_of, promoted, Numbering, resource_entry, ResourceMethod, ItemTypeDecl, UseItem, Use, InterfaceItem, WorldItemPath, WorldItem}
use Rattle.wac_graph_types.specs.declared.kind.ExternKind.TheVariants as sides
use Rattle.wac_resolution_rules.specs.Paths.{Context}
use Rattle.wac_resolution_rules.specs.Bodies.{Body, empty_body, with_extern, with_type, with_count, constructor_name, name_of_method, HasMethod, with_resource, HasItem, used_as, renamed_from, UsesItem, HasUse, IsCovered}
use Rattle.wac_resolution_rules.specs.Worlds.{HasInterfaceItem, HasExtern, HasWorldItem, id_or_empty}
use Rattle.wac_resolution_rules.proofs.StepLaws.{steps_keep}

-- a name is fresh with one more exactly where it is fresh without, and is another name
pub fresh_before : {X : Type 0} (name : List ℕ) (all : Named X) (x : List ℕ) (v : X) → IsFresh name (with_named all x v) → IsFresh name all × (bytes_eq name x ≡ false)
fresh_before name [] x v h = (refl, go (bytes_eq name x) refl h)
  where
    go : (b : Bool) → bytes_eq name x ≡ b → cond b (Some v) None ≡ None → bytes_eq name x ≡ false
    go true e f = absurd (cc)
    go false e f = e
fresh_before {X} name (y ∷ all) x v h = go (fresh_before name all x v) (bytes_eq name y.0) h
  where
    go : (IsFresh name (with_named all x v) → IsFresh name all × (bytes_eq name x ≡ false)) → (b : Bool) → cond b (Some y.1) (look_up name (with_named all x v)) ≡ None → (cond b (Some y.1) (look_up name all) ≡ None) × (bytes_eq name x ≡ false)
    go later true f = absurd (cc)
    go later false f = later f

pub fresh_after : {X : Type 0} (name : List ℕ) (all : Named X) (x : List ℕ) (v : X) → IsFresh name all → bytes_eq name x ≡ false → IsFresh name (with_named all x v)
fresh_after name [] x v h other = ap (λ (b : Bool). cond b (Some v) None) other
fresh_after {X} name (y ∷ all) x v h other = go (λ f. fresh_after name all x v f other) (bytes_eq name y.0) h
  where
    go : (IsFresh name all → IsFresh name (with_named all x v)) → (b : Bool) → cond b (Some y.1) (look_up name all) ≡ None → cond b (Some y.1) (look_up name (with_named all x v)) ≡ None
    go later true f = absurd (cc)
    go later false f = later f

with_type_covered : (side : ExternKind) (b : Body) (n : ℕ) (x : List ℕ) (m : Meaning) → IsCovered side b → IsCovered side (with_type side (with_count b n) x m)
with_type_covered sides.Import b n x m has name h = let f = fresh_before name b.imports x m h in fresh_after name b.scope x m (has name f.0) f.1
with_type_covered sides.Export b n x m has name h = let f = fresh_before name b.exports x m h in fresh_after name b.scope x m (has name f.0) f.1

used_covered : (side : ExternKind) (b : Body) (uses : _) (x : List ℕ) (m : Meaning) → IsCovered side b → IsCovered side (with_type side (record b { uses = uses }) x m)
used_covered sides.Import b uses x m has name h = let f = fresh_before name b.imports x m h in fresh_after name b.scope x m (has name f.0) f.1
used_covered sides.Export b uses x m has name h = let f = fresh_before name b.exports x m h in fresh_after name b.scope x m (has name f.0) f.1

with_extern_covered : (side : ExternKind) (b : Body) (n : ℕ) (x : List ℕ) (m : Meaning) → IsCovered side b → IsCovered side (with_extern side (with_count b n) x m)
with_extern_covered sides.Import b n x m has name h = has name (fresh_before name b.imports x m h).0
with_extern_covered sides.Export b n x m has name h = has name (fresh_before name b.exports x m h).0

method_covered : (side : ExternKind) (resource : List ℕ) (entry : Meaning) (old : Body) (x : ResourceMethod) (new : Body) → IsCovered side old → HasMethod side resource entry old x new → IsCovered side new
method_covered side resource entry old (ResourceMethod.constructor c) new has p = subst (IsCovered side) (sym p.1.2) (with_extern_covered side old old.resources (constructor_name resource) (kind_of func p.1.0) has)
method_covered side resource entry old (ResourceMethod.method x) new has p = subst (IsCovered side) (sym p.2.2) (with_extern_covered side old old.resources (name_of_method x.is_static resource x.id.string) (kind_of func p.2.0) has)

item_covered : (numbering : Numbering) (side : ExternKind) (old : Body) (d : ItemTypeDecl) (new : Body) → IsCovered side old → HasItem numbering side old d new → IsCovered side new
item_covered numbering side old (ItemTypeDecl.resource d) new has p =
    steps_keep (HasMethod side d.id.string (resource_entry numbering old.resources d.id.string)) (IsCovered side) (method_covered side d.id.string (resource_entry numbering old.resources d.id.string)) (with_resource numbering side old d.id.string) d.methods new
    (with_type_covered side old (suc old.resources) d.id.string (kind_of a_resource (resource_entry numbering old.resources d.id.string)) has) p.1
item_covered numbering side old (ItemTypeDecl.variant d) new has p = subst (IsCovered side) (sym p.2.1) (with_type_covered side old old.resources d.id.string p.0 has)
item_covered numbering side old (ItemTypeDecl.record_decl d) new has p = subst (IsCovered side) (sym p.2.1) (with_type_covered side old old.resources d.id.string p.0 has)
item_covered numbering side old (ItemTypeDecl.flags d) new has p = subst (IsCovered side) (sym p.2.1) (with_type_covered side old old.resources d.id.string p.0 has)
item_covered numbering side old (ItemTypeDecl.enum d) new has p = subst (IsCovered side) (sym p.2.1) (with_type_covered side old old.resources d.id.string p.0 has)
item_covered numbering side old (ItemTypeDecl.alias d) new has p = subst (IsCovered side) (sym p.3.1) (with_type_covered side old p.1 d.id.string p.0 has)

use_item_covered : (side : ExternKind) (interface : Meaning) (old : Body) (x : UseItem) (new : Body) → IsCovered side old → UsesItem side interface old x new → IsCovered side new
use_item_covered side interface old x new has p =
    subst (IsCovered side) (sym p.4) (used_covered side old (old.uses ++ (((used_as x).string, renamed_from x), interface) ∷ []) (used_as x).string p.0 has)

use_covered : (context : Context) (root : Scope) (side : ExternKind) (old : Body) (u : Use) (new : Body) → IsCovered side old → HasUse context root side old u new → IsCovered side new
use_covered context root side old u new has p = steps_keep (UsesItem side (promoted p.0)) (IsCovered side) (use_item_covered side (promoted p.0)) old u.items new has p.3

-- the items of an interface keep it
pub interface_item_covered : (context : Context) (root : Scope) (old : Body) (x : InterfaceItem) (new : Body) → IsCovered sides.Export old → HasInterfaceItem context root old x new → IsCovered sides.Export new
interface_item_covered context root old (InterfaceItem.use_statement u) new has p = use_covered context root sides.Export old u new has p
interface_item_covered context root old (InterfaceItem.ty d) new has p = item_covered context.numbering sides.Export old d new has p
interface_item_covered context root old (InterfaceItem.interface_export x) new has p = subst (IsCovered sides.Export) (sym p.3) (with_extern_covered sides.Export old old.resources x.id.string (kind_of func p.0) has)

import_covered : (context : Context) (root : Scope) (old : Body) (x : WorldItemPath) (new : Body) → IsCovered sides.Import old → HasExtern context root sides.Import old x new → IsCovered sides.Import new
import_covered context root old (WorldItemPath.named x) new has p = subst (IsCovered sides.Import) (sym p.1.3) (with_extern_covered sides.Import old p.1.1 x.id.string p.1.0 has)
import_covered context root old (WorldItemPath.path x) new has p = subst (IsCovered sides.Import) (sym p.2.2) (with_extern_covered sides.Import old old.resources (id_or_empty p.0) (promoted p.0) has)
import_covered context root old (WorldItemPath.ident x) new has p = subst (IsCovered sides.Import) (sym p.2.2) (with_extern_covered sides.Import old old.resources (id_or_empty p.0) (promoted p.0) has)

export_covered : (context : Context) (root : Scope) (old : Body) (x : WorldItemPath) (new : Body) → IsCovered sides.Import old → HasExtern context root sides.Export old x new → IsCovered sides.Import new
export_covered context root old (WorldItemPath.named x) new has p = subst (IsCovered sides.Import) (sym p.1.3) has
export_covered context root old (WorldItemPath.path x) new has p = subst (IsCovered sides.Import) (sym p.2.2) has
export_covered context root old (WorldItemPath.ident x) new has p = subst (IsCovered sides.Import) (sym p.2.2) has

-- the items of a world keep it
pub world_item_covered : (context : Context) (root : Scope) (old : Body) (x : WorldItem) (new : Body) → IsCovered sides.Import old → HasWorldItem context root old x new → IsCovered sides.Import new
world_item_covered context root old (WorldItem.use_statement u) new has p = use_covered context root sides.Import old u new has p
world_item_covered context root old (WorldItem.world_import x) new has p = import_covered context root old x.path new has p
world_item_covered context root old (WorldItem.world_export x) new has p = export_covered context root old x.path new has p
world_item_covered context root old (WorldItem.world_include x) new has p = subst (IsCovered sides.Import) (sym p) has
world_item_covered context root old (WorldItem.ty d) new has p = item_covered context.numbering sides.Import old d new has p

-- so it holds of each body of an interface, and of a world before its includes
pub interface_covered : (context : Context) (root : Scope) (n : ℕ) (items : List InterfaceItem) (b : Body) → Steps (HasInterfaceItem context root) (empty_body n) items b → IsCovered sides.Export b
interface_covered context root n items b p = steps_keep (HasInterfaceItem context root) (IsCovered sides.Export) (interface_item_covered context root) (empty_body n) items b (λ name h. refl) p

pub world_covered : (context : Context) (root : Scope) (n : ℕ) (items : List WorldItem) (b : Body) → Steps (HasWorldItem context root) (empty_body n) items b → IsCovered sides.Import b
world_covered context root n items b p = steps_keep (HasWorldItem context root) (IsCovered sides.Import) (world_item_covered context root) (empty_body n) items b (λ name h. refl) p
