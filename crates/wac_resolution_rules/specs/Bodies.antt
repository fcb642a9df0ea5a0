-- What the items of a body declare.
use Rattle.std.specs.Prelude.{◌≡◌, ℕ, suc, List, [], ◌∷◌, ◌++◌, Option, Some, option_map, unwrap_or, Bool, true, false, codes}
use Rattle.wac_graph_types.specs.declared.kind.ExternKind.{ExternKind}
use Rattle.wac_graph_types.specs.declared.kind.ExternKind.TheVariants as sides
use Rattle.wac_graph_types.specs.Kind.{func, a_resource}
use Rattle.wac_graph_types.specs.Meaning.{Meaning}
use Rattle.wac_graph_types.specs.Scope.{Named, Scope, IsFresh, with_named}
use Rattle.wac_graph_types.specs.Steps.{Steps}
use Rattle.wac_graph_types.specs.Shape.{Uses, IsA, is_interface_form, is_resource_or_value_form, kind_of, export_of, promoted}
use Rattle.wac_graph.specs.Origin.{Numbering}
use Rattle.wac_graph.specs.Resources.{resource_entry}
use Rattle.wac_ast_grammar.specs.Tree.{Ident, ResourceMethod, ItemTypeDecl, UseItem, Use}
use Rattle.wac_resolution_rules.specs.Types.{IsFuncWith, IsConstructor, first_params}
use Rattle.wac_resolution_rules.specs.Declarations.{IsVariant, IsRecord, IsFlags, IsEnum, IsAlias, in_body}
use Rattle.wac_resolution_rules.specs.Paths.{Context, UseNames}

-- a body so far: what its identifiers denote, the types that it uses, its imports and exports, and how many resources
-- the document has declared
pub record Body : Type 0 where
  pub scope : Scope
  pub uses : Uses
  pub imports : Named Meaning
  pub exports : Named Meaning
  pub resources : ℕ

abbrev pub empty_body : ℕ → Body
empty_body n = record { scope = []; uses = []; imports = []; exports = []; resources = n }

-- the imports or the exports
abbrev pub externs : ExternKind → Body → Named Meaning
externs sides.Import b = b.imports
externs sides.Export b = b.exports

abbrev pub with_extern : ExternKind → Body → List ℕ → Meaning → Body
with_extern sides.Import b name m = record b { imports = with_named b.imports name m }
with_extern sides.Export b name m = record b { exports = with_named b.exports name m }

abbrev pub with_count : Body → ℕ → Body
with_count b n = record b { resources = n }

-- a name in the scope and among the externs
abbrev pub with_type : ExternKind → Body → List ℕ → Meaning → Body
with_type side b name m = with_extern side (record b { scope = with_named b.scope name m }) name m

-- the name denotes nothing yet, in the scope and among the externs
abbrev pub IsNew : ExternKind → Body → List ℕ → Type 0
IsNew side b name = IsFresh name b.scope × IsFresh name (externs side b)

-- each name of the scope is among the externs: what is new there is new in the scope
abbrev pub IsCovered : ExternKind → Body → Type 0
IsCovered side b = (name : List ℕ) → IsFresh name (externs side b) → IsFresh name b.scope

-- ---- resources

abbrev pub constructor_name : List ℕ → List ℕ
constructor_name resource = codes "[constructor]" ++ resource

abbrev pub method_name : List ℕ → List ℕ → List ℕ
method_name resource name = codes "[method]" ++ resource ++ codes "." ++ name

abbrev pub static_name : List ℕ → List ℕ → List ℕ
static_name resource name = codes "[static]" ++ resource ++ codes "." ++ name

abbrev pub name_of_method : Bool → List ℕ → List ℕ → List ℕ
name_of_method true resource name = static_name resource name
name_of_method false resource name = method_name resource name

-- a method of a resource: it has at most one constructor, and at most one method of a name, static or not
abbrev pub HasMethod : ExternKind → List ℕ → Meaning → Body → ResourceMethod → Body → Type 0
HasMethod side resource entry old (ResourceMethod.constructor c) new =
    IsFresh (constructor_name resource) (externs side old)
    × ((f : Meaning) × IsConstructor old.scope entry c.params f
    × (new ≡ with_extern side old (constructor_name resource) (kind_of func f)))
HasMethod side resource entry old (ResourceMethod.method x) new =
    IsFresh (method_name resource x.id.string) (externs side old)
    × IsFresh (static_name resource x.id.string) (externs side old)
    × ((f : Meaning) × IsFuncWith old.scope (first_params x.is_static entry) x.ty f
    × (new ≡ with_extern side old (name_of_method x.is_static resource x.id.string) (kind_of func f)))

-- a resource that a body declares, before its methods
abbrev pub with_resource : Numbering → ExternKind → Body → List ℕ → Body
with_resource numbering side b name =
    with_type side (with_count b (suc b.resources)) name (kind_of a_resource (resource_entry numbering b.resources name))

-- ---- declarations of types in a body

-- a new name, of this kind
abbrev pub DeclaresIn : ExternKind → Body → Ident → Meaning → ℕ → Body → Type 0
DeclaresIn side old id m n new = IsNew side old id.string × (new ≡ with_type side (with_count old n) id.string m)

abbrev pub HasItem : Numbering → ExternKind → Body → ItemTypeDecl → Body → Type 0
HasItem numbering side old (ItemTypeDecl.resource d) new =
    IsNew side old d.id.string
    × Steps (HasMethod side d.id.string (resource_entry numbering old.resources d.id.string))
    (with_resource numbering side old d.id.string) d.methods new
HasItem numbering side old (ItemTypeDecl.variant d) new = (m : Meaning) × IsVariant old.scope d m
    × DeclaresIn side old d.id m old.resources new
HasItem numbering side old (ItemTypeDecl.record_decl d) new = (m : Meaning) × IsRecord old.scope d m
    × DeclaresIn side old d.id m old.resources new
HasItem numbering side old (ItemTypeDecl.flags d) new = (m : Meaning) × IsFlags d m
    × DeclaresIn side old d.id m old.resources new
HasItem numbering side old (ItemTypeDecl.enum d) new = (m : Meaning) × IsEnum d m
    × DeclaresIn side old d.id m old.resources new
HasItem numbering side old (ItemTypeDecl.alias d) new =
    (m : Meaning) × (n : ℕ) × IsAlias (in_body numbering) old.scope old.resources d.id.string d.kind m n
    × DeclaresIn side old d.id m n new

-- ---- use

-- the identifier after `as`, else the first
abbrev pub used_as : UseItem → Ident
used_as x = unwrap_or x.as_id x.id

-- the name in the interface, where it is another
abbrev pub renamed_from : UseItem → Option (List ℕ)
renamed_from x = option_map (λ (_ : Ident). x.id.string) x.as_id

-- one used type: the interface exports a resource or a type of values under the name, and the name here is not among
-- the externs
abbrev pub UsesItem : ExternKind → Meaning → Body → UseItem → Body → Type 0
UsesItem side interface old x new =
    (m : Meaning) × (export_of interface x.id.string ≡ Some m) × IsA is_resource_or_value_form m
    × IsFresh (used_as x).string (externs side old)
    × (new ≡ with_type side (record old { uses = old.uses ++ (((used_as x).string, renamed_from x), interface) ∷ [] })
    (used_as x).string m)

-- the types of an interface
abbrev pub HasUse : Context → Scope → ExternKind → Body → Use → Body → Type 0
HasUse context root side old u new =
    (k : Meaning) × UseNames context root u.path k × IsA is_interface_form k
    × Steps (UsesItem side (promoted k)) old u.items new
