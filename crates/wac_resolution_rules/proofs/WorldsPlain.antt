-- Of a type statement only the names matter.
use Rattle.wac_resolution_rules.proofs.Common.{◌≡◌, ℕ, List, [], ◌∷◌, Some, None, Option, refl, ◌∙◌, ap, map, ExternKind, func, instance, an_interface, a_world, Meaning, Scope, IsFresh, Steps, IsA, is_interface_form, is_world_form, kind_of, entry_of, promoted, interface_entry, world_entry, Numbering, resource_entry, Ident, FuncTypeRef, ResourceMethod, ItemTypeDecl, UsePath, UseItem, Use, InterfaceItem, ExternType, WorldItemPath, WorldRef, WorldInclude, WorldItem, TypeDecl, TypeStatement, walk_extern_type, walk_func_type_ref, walk_interface_item, walk_item_type_decl, walk_resource_method, walk_type_decl, walk_type_statement, walk_use, walk_use_item, walk_use_path, walk_world_include, walk_world_include_item, walk_world_item, walk_world_item_path, walk_world_ref, changed, no_docs, plain}
use Rattle.wac_graph_types.specs.declared.kind.ExternKind.TheVariants as sides
use Rattle.wac_resolution_rules.specs.Types.{first_params}
use Rattle.wac_resolution_rules.specs.Declarations.{in_body}
use Rattle.wac_resolution_rules.specs.Paths.{Context, UseNames, WorldNames}
use Rattle.wac_resolution_rules.specs.Bodies.{Body, empty_body, externs, with_extern, with_count, IsNew, constructor_name, method_name, static_name, name_of_method, HasMethod, with_resource, DeclaresIn, HasItem, UsesItem, HasUse}
use Rattle.wac_resolution_rules.specs.Includes.{Entries, HasEntry, Included, HasInclude}
use Rattle.wac_resolution_rules.specs.Worlds.{IsFuncRef, HasInterfaceItem, IsInterface, HasExternType, HasExtern, HasWorldItem, includes_of, IsWorld}
use Rattle.wac_resolution_rules.specs.Composition.{Composition, root_scope}
use Rattle.wac_resolution_rules.specs.TypeStatements.{declared_id, declared_as, identifier_of, DeclaresKind, Defines, Declares}
use Rattle.wac_resolution_rules.proofs.StepLaws.{steps_map}
use Rattle.wac_resolution_rules.proofs.TypesPlain.{func_with_plain, constructor_plain, variant_plain, record_plain, flags_plain, enum_plain, alias_plain, decl_plain}

method_plain : (side : ExternKind) (resource : List ℕ) (entry : Meaning) (old : Body) (m : ResourceMethod) → HasMethod side resource entry old (walk_resource_method (changed plain) no_docs m) ≡ HasMethod side resource entry old m
method_plain side resource entry old (ResourceMethod.constructor c) = λ i new.
    IsFresh (constructor_name resource) (externs side old)
    × ((f : Meaning) × constructor_plain old.scope entry c.params i f
    × (new ≡ with_extern side old (constructor_name resource) (kind_of func f)))
method_plain side resource entry old (ResourceMethod.method x) = λ i new.
    IsFresh (method_name resource x.id.string) (externs side old)
    × IsFresh (static_name resource x.id.string) (externs side old)
    × ((f : Meaning) × func_with_plain old.scope (first_params x.is_static entry) x.ty i f
    × (new ≡ with_extern side old (name_of_method x.is_static resource x.id.string) (kind_of func f)))

pub item_plain : (numbering : Numbering) (side : ExternKind) (old : Body) (d : ItemTypeDecl) → HasItem numbering side old (walk_item_type_decl (changed plain) no_docs d) ≡ HasItem numbering side old d
item_plain numbering side old (ItemTypeDecl.resource d) = λ i new.
    IsNew side old d.id.string
    × steps_map (HasMethod side d.id.string (resource_entry numbering old.resources d.id.string)) (walk_resource_method (changed plain) no_docs) (method_plain side d.id.string (resource_entry numbering old.resources d.id.string)) (with_resource numbering side old d.id.string) d.methods i new
item_plain numbering side old (ItemTypeDecl.variant d) = λ i new. (m : Meaning) × variant_plain old.scope d i m × DeclaresIn side old d.id m old.resources new
item_plain numbering side old (ItemTypeDecl.record_decl d) = λ i new. (m : Meaning) × record_plain old.scope d i m × DeclaresIn side old d.id m old.resources new
item_plain numbering side old (ItemTypeDecl.flags d) = λ i new. (m : Meaning) × flags_plain d i m × DeclaresIn side old d.id m old.resources new
item_plain numbering side old (ItemTypeDecl.enum d) = λ i new. (m : Meaning) × enum_plain d i m × DeclaresIn side old d.id m old.resources new
item_plain numbering side old (ItemTypeDecl.alias d) = λ i new.
    (m : Meaning) × (n : ℕ) × alias_plain (in_body numbering) old.scope old.resources d.id.string d.kind i m n × DeclaresIn side old d.id m n new

-- ---- paths and use

use_path_plain : (context : Context) (root : Scope) (p : UsePath) → UseNames context root (walk_use_path (changed plain) p) ≡ UseNames context root p
use_path_plain context root (UsePath.path p) = refl
use_path_plain context root (UsePath.ident x) = refl

world_ref_plain : (context : Context) (root : Scope) (p : WorldRef) → WorldNames context root (walk_world_ref (changed plain) p) ≡ WorldNames context root p
world_ref_plain context root (WorldRef.path p) = refl
world_ref_plain context root (WorldRef.ident x) = refl

use_item_plain : (side : ExternKind) (interface : Meaning) (old : Body) (x : UseItem) → UsesItem side interface old (walk_use_item (changed plain) x) ≡ UsesItem side interface old x
use_item_plain side interface old x = go x.as_id
  where
    go : (o : Option Ident) → UsesItem side interface old (walk_use_item (changed plain) (record { id = x.id; as_id = o })) ≡ UsesItem side interface old (record { id = x.id; as_id = o })
    go None = refl
    go (Some y) = refl

pub use_plain : (context : Context) (root : Scope) (side : ExternKind) (old : Body) (u : Use) → HasUse context root side old (walk_use (changed plain) no_docs u) ≡ HasUse context root side old u
use_plain context root side old u = λ i new.
    (k : Meaning) × use_path_plain context root u.path i k × IsA is_interface_form k
    × steps_map (UsesItem side (promoted k)) (walk_use_item (changed plain)) (use_item_plain side (promoted k)) old u.items i new

-- ---- include

pub include_plain : (context : Context) (root : Scope) (old : Body) (x : WorldInclude) → HasInclude context root old (walk_world_include (changed plain) no_docs x) ≡ HasInclude context root old x
include_plain context root old x = λ i new.
    (entries : Entries) × (k : Meaning)
    × steps_map HasEntry (walk_world_include_item (changed plain)) (λ o e. refl) [] x.items i entries
    × world_ref_plain context root x.world i k
    × IsA is_world_form k
    × Included entries (entry_of k) old new

-- ---- interfaces

func_ref_plain : (scope : Scope) (x : FuncTypeRef) → IsFuncRef scope (walk_func_type_ref (changed plain) x) ≡ IsFuncRef scope x
func_ref_plain scope (FuncTypeRef.func f) = func_with_plain scope [] f
func_ref_plain scope (FuncTypeRef.ident x) = refl

interface_item_plain : (context : Context) (root : Scope) (old : Body) (x : InterfaceItem) → HasInterfaceItem context root old (walk_interface_item (changed plain) no_docs x) ≡ HasInterfaceItem context root old x
interface_item_plain context root old (InterfaceItem.use_statement u) = use_plain context root sides.Export old u
interface_item_plain context root old (InterfaceItem.ty d) = item_plain context.numbering sides.Export old d
interface_item_plain context root old (InterfaceItem.interface_export x) = λ i new.
    (f : Meaning) × func_ref_plain old.scope x.ty i f × IsFresh x.id.string old.exports
    × (new ≡ with_extern sides.Export old x.id.string (kind_of func f))

pub interface_plain : (context : Context) (root : Scope) (n : ℕ) (id : Option (List ℕ)) (items : List InterfaceItem) → IsInterface context root n id (map (walk_interface_item (changed plain) no_docs) items) ≡ IsInterface context root n id items
interface_plain context root n id items = λ i entry after.
    (b : Body) × steps_map (HasInterfaceItem context root) (walk_interface_item (changed plain) no_docs) (interface_item_plain context root) (empty_body n) items i b
    × (entry ≡ interface_entry id b.uses b.exports) × (after ≡ b.resources)

-- ---- worlds

extern_type_plain : (context : Context) (root scope : Scope) (n : ℕ) (x : ExternType) → HasExternType context root scope n (walk_extern_type (changed plain) no_docs x) ≡ HasExternType context root scope n x
extern_type_plain context root scope n (ExternType.ident x) = refl
extern_type_plain context root scope n (ExternType.func f) = λ i m after. (entry : Meaning) × func_with_plain scope [] f i entry × (m ≡ kind_of func entry) × (after ≡ n)
extern_type_plain context root scope n (ExternType.interface x) = λ i m after. (entry : Meaning) × interface_plain context root n None x.items i entry after × (m ≡ kind_of instance entry)

pub extern_plain : (context : Context) (root : Scope) (side : ExternKind) (old : Body) (x : WorldItemPath) → HasExtern context root side old (walk_world_item_path (changed plain) no_docs x) ≡ HasExtern context root side old x
extern_plain context root side old (WorldItemPath.named x) = λ i new.
    IsFresh x.id.string (externs side old)
    × ((m : Meaning) × (n : ℕ) × extern_type_plain context root old.scope old.resources x.ty i m n
    × (new ≡ with_extern side (with_count old n) x.id.string m))
extern_plain context root side old (WorldItemPath.path p) = refl
extern_plain context root side old (WorldItemPath.ident x) = refl

world_item_plain : (context : Context) (root : Scope) (old : Body) (x : WorldItem) → HasWorldItem context root old (walk_world_item (changed plain) no_docs x) ≡ HasWorldItem context root old x
world_item_plain context root old (WorldItem.use_statement u) = use_plain context root sides.Import old u
world_item_plain context root old (WorldItem.world_import x) = extern_plain context root sides.Import old x.path
world_item_plain context root old (WorldItem.world_export x) = extern_plain context root sides.Export old x.path
world_item_plain context root old (WorldItem.world_include x) = refl
world_item_plain context root old (WorldItem.ty d) = item_plain context.numbering sides.Import old d

includes_plain : (items : List WorldItem) → includes_of (map (walk_world_item (changed plain) no_docs) items) ≡ map (walk_world_include (changed plain) no_docs) (includes_of items)
includes_plain [] = refl
includes_plain (WorldItem.use_statement u ∷ items) = includes_plain items
includes_plain (WorldItem.world_import x ∷ items) = includes_plain items
includes_plain (WorldItem.world_export x ∷ items) = includes_plain items
includes_plain (WorldItem.world_include x ∷ items) = ap (λ l. walk_world_include (changed plain) no_docs x ∷ l) (includes_plain items)
includes_plain (WorldItem.ty d ∷ items) = includes_plain items

includes_all_plain : (context : Context) (root : Scope) (mid : Body) (items : List WorldItem) → Steps (HasInclude context root) mid (includes_of (map (walk_world_item (changed plain) no_docs) items)) ≡ Steps (HasInclude context root) mid (includes_of items)
includes_all_plain context root mid items =
    ap (Steps (HasInclude context root) mid) (includes_plain items) ∙ steps_map (HasInclude context root) (walk_world_include (changed plain) no_docs) (include_plain context root) mid (includes_of items)

pub world_plain : (context : Context) (root : Scope) (n : ℕ) (id : Option (List ℕ)) (items : List WorldItem) → IsWorld context root n id (map (walk_world_item (changed plain) no_docs) items) ≡ IsWorld context root n id items
world_plain context root n id items = λ i entry after.
    (mid : Body) × (b : Body) × steps_map (HasWorldItem context root) (walk_world_item (changed plain) no_docs) (world_item_plain context root) (empty_body n) items i mid × includes_all_plain context root mid items i b
    × (entry ≡ world_entry id b.uses b.imports b.exports) × (after ≡ b.resources)

-- ---- type statements

identifier_plain : (d : TypeDecl) → (declared_as (walk_type_decl (changed plain) no_docs d)).string ≡ (declared_as d).string
identifier_plain (TypeDecl.variant d) = refl
identifier_plain (TypeDecl.record_decl d) = refl
identifier_plain (TypeDecl.flags d) = refl
identifier_plain (TypeDecl.enum d) = refl
identifier_plain (TypeDecl.alias d) = refl

statement_plain : (s : TypeStatement) → (identifier_of (walk_type_statement (changed plain) no_docs s)).string ≡ (identifier_of s).string
statement_plain (TypeStatement.interface d) = refl
statement_plain (TypeStatement.world d) = refl
statement_plain (TypeStatement.ty d) = identifier_plain d

declared_plain : (context : Context) (old : Composition) (s : TypeStatement) → DeclaresKind context old (walk_type_statement (changed plain) no_docs s) ≡ DeclaresKind context old s
declared_plain context old (TypeStatement.interface d) = λ i m n.
    (entry : Meaning) × interface_plain context (root_scope old) old.resources (declared_id context d.id.string) d.items i entry n × (m ≡ kind_of an_interface entry)
declared_plain context old (TypeStatement.world d) = λ i m n.
    (entry : Meaning) × world_plain context (root_scope old) old.resources (declared_id context d.id.string) d.items i entry n × (m ≡ kind_of a_world entry)
declared_plain context old (TypeStatement.ty d) = λ i m n. decl_plain (root_scope old) old.resources d i m n

-- a type statement yields what its plain tree yields
pub declares_plain : (context : Context) (old : Composition) (s : TypeStatement) → Declares context old (walk_type_statement (changed plain) no_docs s) ≡ Declares context old s
declares_plain context old s = λ i new. (m : Meaning) × (n : ℕ) × declared_plain context old s i m n × Defines old (statement_plain s i) m n new
