-- Of the packages only those that types and declarations mention matter to them.
use Rattle.wac_resolution_rules.proofs.Common.{◌≡◌, ℕ, List, [], ◌∷◌, ◌++◌, refl, ap, subst, Option, Some, None, Bool, true, false, flat_map, option_map, if◌then◌else◌, bytes_eq, ExternKind, instance, an_interface, a_world, Meaning, Scope, IsFresh, Steps, IsA, is_interface_form, is_world_form, kind_of, entry_of, interface_entry, world_entry, promoted, Packages, Contents, package_of, PackagePath, UsePath, Use, InterfaceItem, ExternType, WorldItemPath, WorldRef, WorldInclude, WorldItem, TypeStatement}
use Rattle.wac_graph_types.specs.declared.kind.ExternKind.TheVariants as sides
use Rattle.wac_resolution_rules.specs.Composition.{Composition, root_scope}
use Rattle.wac_resolution_rules.specs.Paths.{Context, key_of_path, segments_of, beginning_of, LeadsFrom, LeadsTo, UseNames, WorldNames}
use Rattle.wac_resolution_rules.specs.Bodies.{Body, empty_body, externs, with_extern, with_count, HasUse, UsesItem}
use Rattle.wac_resolution_rules.specs.Includes.{Entries, HasEntry, Included, HasInclude}
use Rattle.wac_resolution_rules.specs.Worlds.{HasInterfaceItem, IsInterface, HasExternType, HasInstance, HasExtern, HasWorldItem, includes_of, IsWorld}
use Rattle.wac_resolution_rules.specs.TypeStatements.{Declares, DeclaresKind, Defines, declared_id, identifier_of}
use Rattle.wac_resolution_rules.specs.Mentions.{Mention, path_mentions, use_path_mentions, interface_item_mentions, interface_mentions, extern_type_mentions, extern_mentions, world_ref_mentions, world_item_mentions, type_mentions, Agree, over}
use Rattle.wac_resolution_rules.proofs.StatementsStop.{all_prefix, all_append}

abbrev pub same : Packages → Packages → Mention → Type 0
same ps qs m = package_of m.0 ps ≡ package_of m.0 qs

-- along an equality of types
pub along : {A B : Type 0} → A ≡ B → A → B
along e a = subst (λ (T : Type 0). T) e a

pub agree_prefix : (ps qs : Packages) (ms ns : List Mention) → Agree ps qs (ms ++ ns) → Agree ps qs ms × Agree ps qs ns
agree_prefix ps qs ms ns h = all_prefix (same ps qs) ms ns h

pub steps_agree : {S X : Type 0} (one two : S → X → S → Type 0) (ms : X → List Mention) (ps qs : Packages) → ((old : S) (x : X) → Agree ps qs (ms x) → one old x ≡ two old x)
    → (old : S) (xs : List X) → Agree ps qs (flat_map ms xs) → Steps one old xs ≡ Steps two old xs
steps_agree one two ms ps qs each old [] h = refl
steps_agree {S} one two ms ps qs each old (x ∷ xs) h =
    let r = agree_prefix ps qs (ms x) (flat_map ms xs) h in
    λ i new. (mid : S) × each old x r.0 i mid × steps_agree one two ms ps qs each mid xs r.1 i new

begins_agree : (ps qs : Packages) (root : Scope) (b : Bool) (m : Mention) → Agree ps qs (if b then [] else m ∷ []) → beginning_of b root ps m.0 ≡ beginning_of b root qs m.0
begins_agree ps qs root true m h = refl
begins_agree ps qs root false m h = ap (λ (o : Option Contents). option_map (λ (c : Contents). c.definitions) o) h.0

pub path_agrees : (s : Context) (ps qs : Packages) (root : Scope) (p : PackagePath) → Agree ps qs (path_mentions s.own p) → LeadsTo (over s ps) root p ≡ LeadsTo (over s qs) root p
path_agrees s ps qs root p h = λ i m. (from : Scope) × (begins_agree ps qs root (bytes_eq p.name s.own) (key_of_path p, _) h i ≡ Some from) × LeadsFrom from (segments_of p) m

pub use_path_agrees : (s : Context) (ps qs : Packages) (root : Scope) (p : UsePath) → Agree ps qs (use_path_mentions s.own p) → UseNames (over s ps) root p ≡ UseNames (over s qs) root p
use_path_agrees s ps qs root (UsePath.path p) h = path_agrees s ps qs root p h
use_path_agrees s ps qs root (UsePath.ident x) h = refl

use_agrees : (s : Context) (ps qs : Packages) (root : Scope) (side : ExternKind) (old : Body) (u : Use) → Agree ps qs (use_path_mentions s.own u.path) → HasUse (over s ps) root side old u ≡ HasUse (over s qs) root side old u
use_agrees s ps qs root side old u h = λ i new. (k : Meaning) × use_path_agrees s ps qs root u.path h i k × IsA is_interface_form k × Steps (UsesItem side (promoted k)) old u.items new

pub interface_item_agrees : (s : Context) (ps qs : Packages) (root : Scope) (old : Body) (x : InterfaceItem) → Agree ps qs (interface_item_mentions s.own x) → HasInterfaceItem (over s ps) root old x ≡ HasInterfaceItem (over s qs) root old x
interface_item_agrees s ps qs root old (InterfaceItem.use_statement u) h = use_agrees s ps qs root sides.Export old u h
interface_item_agrees s ps qs root old (InterfaceItem.interface_export x) h = refl
interface_item_agrees s ps qs root old (InterfaceItem.ty d) h = refl

pub interface_agrees : (s : Context) (ps qs : Packages) (root : Scope) (n : ℕ) (id : Option (List ℕ)) (items : List InterfaceItem) → Agree ps qs (interface_mentions s.own items)
    → IsInterface (over s ps) root n id items ≡ IsInterface (over s qs) root n id items
interface_agrees s ps qs root n id items h = λ i entry after.
    (b : Body) × steps_agree (HasInterfaceItem (over s ps) root) (HasInterfaceItem (over s qs) root) (interface_item_mentions s.own) ps qs (interface_item_agrees s ps qs root) (empty_body n) items h i b
    × (entry ≡ interface_entry id b.uses b.exports) × (after ≡ b.resources)

extern_type_agrees : (s : Context) (ps qs : Packages) (root scope : Scope) (n : ℕ) (x : ExternType) → Agree ps qs (extern_type_mentions s.own x) → HasExternType (over s ps) root scope n x ≡ HasExternType (over s qs) root scope n x
extern_type_agrees s ps qs root scope n (ExternType.ident x) h = refl
extern_type_agrees s ps qs root scope n (ExternType.func x) h = refl
extern_type_agrees s ps qs root scope n (ExternType.interface x) h = λ i m after. (entry : Meaning) × interface_agrees s ps qs root n None x.items h i entry after × (m ≡ kind_of instance entry)

extern_agrees : (s : Context) (ps qs : Packages) (root : Scope) (side : ExternKind) (old : Body) (x : WorldItemPath) → Agree ps qs (extern_mentions s.own x) → HasExtern (over s ps) root side old x ≡ HasExtern (over s qs) root side old x
extern_agrees s ps qs root side old (WorldItemPath.named x) h = λ i new.
    IsFresh x.id.string (externs side old)
    × ((m : Meaning) × (n : ℕ) × extern_type_agrees s ps qs root old.scope old.resources x.ty h i m n
    × (new ≡ with_extern side (with_count old n) x.id.string m))
extern_agrees s ps qs root side old (WorldItemPath.path p) h = λ i new. (k : Meaning) × path_agrees s ps qs root p h i k × HasInstance side old k new
extern_agrees s ps qs root side old (WorldItemPath.ident x) h = refl

pub world_item_agrees : (s : Context) (ps qs : Packages) (root : Scope) (old : Body) (x : WorldItem) → Agree ps qs (world_item_mentions s.own x) → HasWorldItem (over s ps) root old x ≡ HasWorldItem (over s qs) root old x
world_item_agrees s ps qs root old (WorldItem.use_statement u) h = use_agrees s ps qs root sides.Import old u h
world_item_agrees s ps qs root old (WorldItem.world_import x) h = extern_agrees s ps qs root sides.Import old x.path h
world_item_agrees s ps qs root old (WorldItem.world_export x) h = extern_agrees s ps qs root sides.Export old x.path h
world_item_agrees s ps qs root old (WorldItem.world_include x) h = refl
world_item_agrees s ps qs root old (WorldItem.ty d) h = refl

pub world_ref_agrees : (s : Context) (ps qs : Packages) (root : Scope) (x : WorldRef) → Agree ps qs (world_ref_mentions s.own x) → WorldNames (over s ps) root x ≡ WorldNames (over s qs) root x
world_ref_agrees s ps qs root (WorldRef.path p) h = path_agrees s ps qs root p h
world_ref_agrees s ps qs root (WorldRef.ident x) h = refl

abbrev pub include_mentions : List ℕ → WorldInclude → List Mention
include_mentions own x = world_ref_mentions own x.world

pub include_agrees : (s : Context) (ps qs : Packages) (root : Scope) (old : Body) (x : WorldInclude) → Agree ps qs (include_mentions s.own x) → HasInclude (over s ps) root old x ≡ HasInclude (over s qs) root old x
include_agrees s ps qs root old x h = λ i new. (entries : Entries) × (k : Meaning) × Steps HasEntry [] x.items entries × world_ref_agrees s ps qs root x.world h i k × IsA is_world_form k × Included entries (entry_of k) old new

-- what the includes mention the items mention
pub includes_agree : (own : List ℕ) (ps qs : Packages) (items : List WorldItem) → Agree ps qs (flat_map (world_item_mentions own) items) → Agree ps qs (flat_map (include_mentions own) (includes_of items))
includes_agree own ps qs [] h = tt
includes_agree own ps qs (WorldItem.use_statement u ∷ items) h = includes_agree own ps qs items (agree_prefix ps qs (use_path_mentions own u.path) (flat_map (world_item_mentions own) items) h).1
includes_agree own ps qs (WorldItem.world_import x ∷ items) h = includes_agree own ps qs items (agree_prefix ps qs (extern_mentions own x.path) (flat_map (world_item_mentions own) items) h).1
includes_agree own ps qs (WorldItem.world_export x ∷ items) h = includes_agree own ps qs items (agree_prefix ps qs (extern_mentions own x.path) (flat_map (world_item_mentions own) items) h).1
includes_agree own ps qs (WorldItem.world_include x ∷ items) h =
    let r = agree_prefix ps qs (include_mentions own x) (flat_map (world_item_mentions own) items) h in
    all_append (same ps qs) (include_mentions own x) (flat_map (include_mentions own) (includes_of items)) r.0 (includes_agree own ps qs items r.1)
includes_agree own ps qs (WorldItem.ty d ∷ items) h = includes_agree own ps qs items h

pub world_agrees : (s : Context) (ps qs : Packages) (root : Scope) (n : ℕ) (id : Option (List ℕ)) (items : List WorldItem) → Agree ps qs (flat_map (world_item_mentions s.own) items)
    → IsWorld (over s ps) root n id items ≡ IsWorld (over s qs) root n id items
world_agrees s ps qs root n id items h = λ i entry after.
    (mid : Body) × (b : Body) × steps_agree (HasWorldItem (over s ps) root) (HasWorldItem (over s qs) root) (world_item_mentions s.own) ps qs (world_item_agrees s ps qs root) (empty_body n) items h i mid
    × steps_agree (HasInclude (over s ps) root) (HasInclude (over s qs) root) (include_mentions s.own) ps qs (include_agrees s ps qs root) mid (includes_of items) (includes_agree s.own ps qs items h) i b
    × (entry ≡ world_entry id b.uses b.imports b.exports) × (after ≡ b.resources)

pub declared_agrees : (s : Context) (ps qs : Packages) (old : Composition) (x : TypeStatement) → Agree ps qs (type_mentions s.own x) → DeclaresKind (over s ps) old x ≡ DeclaresKind (over s qs) old x
declared_agrees s ps qs old (TypeStatement.interface d) h = λ i m n.
    (entry : Meaning) × interface_agrees s ps qs (root_scope old) old.resources (declared_id s d.id.string) d.items h i entry n × (m ≡ kind_of an_interface entry)
declared_agrees s ps qs old (TypeStatement.world d) h = λ i m n.
    (entry : Meaning) × world_agrees s ps qs (root_scope old) old.resources (declared_id s d.id.string) d.items h i entry n × (m ≡ kind_of a_world entry)
declared_agrees s ps qs old (TypeStatement.ty d) h = refl

pub declares_agrees : (s : Context) (ps qs : Packages) (old : Composition) (x : TypeStatement) → Agree ps qs (type_mentions s.own x) → Declares (over s ps) old x ≡ Declares (over s qs) old x
declares_agrees s ps qs old x h = λ i new. (m : Meaning) × (n : ℕ) × declared_agrees s ps qs old x h i m n × Defines old (identifier_of x).string m n new
