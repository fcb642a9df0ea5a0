-- What paths name, what items of a body declare, and what is included, is unique.
use Rattle.wac_resolution_rules.proofs.Common.{◌≡◌, ℕ, List, [], ◌∷◌, ◌++◌, Bool, true, false, refl, sym, ◌∙◌, ap, subst, ExternKind, func, Meaning, Scope, Steps, kind_of, promoted, entry_of, imports_of, exports_of, Numbering, resource_entry, Ident, PackagePath, UsePath, WorldRef, ResourceMethod, ItemTypeDecl}
use Rattle.wac_resolution_rules.specs.Types.{first_params}
use Rattle.wac_resolution_rules.specs.Declarations.{in_body}
use Rattle.wac_resolution_rules.specs.Paths.{Context, segments_of, IsMember, LeadsFrom, LeadsTo, UseNames, WorldNames}
use Rattle.wac_resolution_rules.specs.Bodies.{Body, with_extern, with_type, with_count, constructor_name, name_of_method, HasMethod, with_resource, DeclaresIn, HasItem, used_as, renamed_from, UsesItem, HasUse}
use Rattle.wac_resolution_rules.specs.Includes.{Entries, HasEntry, has_colon, Taking, TakesNamed, Takes, Included, HasInclude}
use Rattle.wac_resolution_rules.proofs.StepLaws.{IsOnce, steps_once}
use Rattle.wac_resolution_rules.proofs.TypesOnce.{stands_once, func_once, constructor_once}
use Rattle.wac_resolution_rules.proofs.DeclarationsOnce.{variant_once, record_once, flags_once, enum_once, alias_once}
use Rattle.wac_resolution_rules.proofs.Options.{some_back}

-- ---- paths

pub member_once : IsOnce IsMember
member_once k segment a b p q = some_back (sym p ∙ q)

pub leads_from_once : (scope : Scope) (segments : List (List ℕ)) (a b : Meaning) → LeadsFrom scope segments a → LeadsFrom scope segments b → a ≡ b
leads_from_once scope [] a b p q = absurd p
leads_from_once scope (first ∷ rest) a b p q =
    let e : p.0 ≡ q.0 = stands_once scope first p.0 q.0 p.1 q.1 in
    steps_once IsMember member_once q.0 rest a b (subst (λ (k : Meaning). Steps IsMember k rest a) e p.2) q.2

pub leads_once : (context : Context) (root : Scope) (p : PackagePath) (a b : Meaning) → LeadsTo context root p a → LeadsTo context root p b → a ≡ b
leads_once context root p a b x y =
    let e : x.0 ≡ y.0 = some_back (sym x.1 ∙ y.1) in
    leads_from_once y.0 (segments_of p) a b (subst (λ (s : Scope). LeadsFrom s (segments_of p) a) e x.2) y.2

pub use_names_once : (context : Context) (root : Scope) (p : UsePath) (a b : Meaning) → UseNames context root p a → UseNames context root p b → a ≡ b
use_names_once context root (UsePath.path p) a b x y = leads_once context root p a b x y
use_names_once context root (UsePath.ident p) a b x y = stands_once root p.string a b x y

pub world_names_once : (context : Context) (root : Scope) (p : WorldRef) (a b : Meaning) → WorldNames context root p a → WorldNames context root p b → a ≡ b
world_names_once context root (WorldRef.path p) a b x y = leads_once context root p a b x y
world_names_once context root (WorldRef.ident p) a b x y = stands_once root p.string a b x y

-- ---- declarations

pub method_once : (side : ExternKind) (resource : List ℕ) (entry : Meaning) → IsOnce (HasMethod side resource entry)
method_once side resource entry old (ResourceMethod.constructor c) a b p q =
    p.1.2 ∙ ap (λ f. with_extern side old (constructor_name resource) (kind_of func f)) (constructor_once old.scope entry c.params p.1.0 q.1.0 p.1.1 q.1.1) ∙ sym q.1.2
method_once side resource entry old (ResourceMethod.method x) a b p q =
    p.2.2 ∙ ap (λ f. with_extern side old (name_of_method x.is_static resource x.id.string) (kind_of func f)) (func_once old.scope (first_params x.is_static entry) x.ty p.2.0 q.2.0 p.2.1 q.2.1) ∙ sym q.2.2

declares_once : (side : ExternKind) (old : Body) (x : Ident) (m n : Meaning) (i j : ℕ) (a b : Body) → m ≡ n → i ≡ j → DeclaresIn side old x m i a → DeclaresIn side old x n j b → a ≡ b
declares_once side old x m n i j a b e d p q =
    p.1 ∙ ap (λ k. with_type side (with_count old k) x.string m) d ∙ ap (with_type side (with_count old j) x.string) e ∙ sym q.1

pub item_once : (numbering : Numbering) (side : ExternKind) → IsOnce (HasItem numbering side)
item_once numbering side old (ItemTypeDecl.resource d) a b p q =
    steps_once (HasMethod side d.id.string (resource_entry numbering old.resources d.id.string)) (method_once side d.id.string (resource_entry numbering old.resources d.id.string)) (with_resource numbering side old d.id.string) d.methods a b p.1 q.1
item_once numbering side old (ItemTypeDecl.variant d) a b p q = declares_once side old d.id p.0 q.0 old.resources old.resources a b (variant_once old.scope d p.0 q.0 p.1 q.1) refl p.2 q.2
item_once numbering side old (ItemTypeDecl.record_decl d) a b p q = declares_once side old d.id p.0 q.0 old.resources old.resources a b (record_once old.scope d p.0 q.0 p.1 q.1) refl p.2 q.2
item_once numbering side old (ItemTypeDecl.flags d) a b p q = declares_once side old d.id p.0 q.0 old.resources old.resources a b (flags_once d p.0 q.0 p.1 q.1) refl p.2 q.2
item_once numbering side old (ItemTypeDecl.enum d) a b p q = declares_once side old d.id p.0 q.0 old.resources old.resources a b (enum_once d p.0 q.0 p.1 q.1) refl p.2 q.2
item_once numbering side old (ItemTypeDecl.alias d) a b p q =
    let e = alias_once (in_body numbering) old.scope old.resources d.id.string d.kind p.0 q.0 p.1 q.1 p.2 q.2 in
    declares_once side old d.id p.0 q.0 p.1 q.1 a b e.0 e.1 p.3 q.3

-- ---- use

pub use_item_once : (side : ExternKind) (interface : Meaning) → IsOnce (UsesItem side interface)
use_item_once side interface old x a b p q =
    let e : p.0 ≡ q.0 = some_back (sym p.1 ∙ q.1) in
    p.4 ∙ ap (with_type side (record old { uses = old.uses ++ (((used_as x).string, renamed_from x), interface) ∷ [] }) (used_as x).string) e ∙ sym q.4

pub use_once : (context : Context) (root : Scope) (side : ExternKind) → IsOnce (HasUse context root side)
use_once context root side old u a b p q =
    let e : p.0 ≡ q.0 = use_names_once context root u.path p.0 q.0 p.1 q.1 in
    steps_once (UsesItem side (promoted q.0)) (use_item_once side (promoted q.0)) old u.items a b (subst (λ (k : Meaning). Steps (UsesItem side (promoted k)) old u.items a) e p.3) q.3

-- ---- include

pub entry_once : IsOnce HasEntry
entry_once old x a b p q = p.1 ∙ sym q.1

takes_named_once : (colon : Bool) (old : Taking) (x : List ℕ × Meaning) (a b : Taking) → TakesNamed colon old x a → TakesNamed colon old x b → a ≡ b
takes_named_once true old x a b p q = p ∙ sym q
takes_named_once false old x a b p q = p.1 ∙ sym q.1

pub takes_once : IsOnce Takes
takes_once old x a b p q = takes_named_once (has_colon x.0) old x a b p q

pub included_once : (entries : Entries) (world : Meaning) (old a b : Body) → Included entries world old a → Included entries world old b → a ≡ b
included_once entries world old a b p q =
    let d : p.imports ≡ q.imports = steps_once Takes takes_once (record { entries = entries; there = old.imports }) (imports_of world) p.imports q.imports p.takes_imports q.takes_imports in
    let e : p.exports ≡ q.exports = steps_once Takes takes_once (record { entries = q.imports.entries; there = old.exports }) (exports_of world) p.exports q.exports
    (subst (λ (t : Taking). Steps Takes (record { entries = t.entries; there = old.exports }) (exports_of world) p.exports) d p.takes_exports) q.takes_exports in
    p.is ∙ ap (λ (t : Taking). record old { imports = t.there; exports = p.exports.there }) d ∙ ap (λ (t : Taking). record old { imports = q.imports.there; exports = t.there }) e ∙ sym q.is

pub include_once : (context : Context) (root : Scope) → IsOnce (HasInclude context root)
include_once context root old x a b p q =
    let d : p.0 ≡ q.0 = steps_once HasEntry entry_once [] x.items p.0 q.0 p.2 q.2 in
    let e : p.1 ≡ q.1 = world_names_once context root x.world p.1 q.1 p.3 q.3 in
    included_once q.0 (entry_of q.1) old a b (subst (λ (k : Meaning). Included q.0 (entry_of k) old a) e (subst (λ (n : Entries). Included n (entry_of p.1) old a) d p.5)) q.5
