-- What interfaces and worlds mean.
use Rattle.std.specs.Prelude.{◌≡◌, ℕ, List, [], ◌++◌, Option, Some, None, unwrap_or}
use Rattle.std.specs.List.{filter_map}
use Rattle.wac_graph_types.specs.declared.kind.ExternKind.{ExternKind}
use Rattle.wac_graph_types.specs.declared.kind.ExternKind.TheVariants as sides
use Rattle.wac_graph_types.specs.Kind.{func, instance}
use Rattle.wac_graph_types.specs.Meaning.{Meaning}
use Rattle.wac_graph_types.specs.Scope.{Scope, StandsFor, IsFresh}
use Rattle.wac_graph_types.specs.Steps.{Steps}
use Rattle.wac_graph_types.specs.Shape.{IsA, is_func_form, is_interface_form, is_func_or_interface_form, entry_of, id_of, kind_of, promoted, interface_entry, world_entry}
use Rattle.wac_ast_grammar.specs.Tree.{FuncTypeRef, InterfaceItem, ExternType, WorldItemPath, WorldItem, WorldInclude}
use Rattle.wac_resolution_rules.specs.Types.{IsFunc}
use Rattle.wac_resolution_rules.specs.Paths.{Context, LeadsTo}
use Rattle.wac_resolution_rules.specs.Bodies.{Body, empty_body, externs, with_extern, with_count, HasItem, HasUse}
use Rattle.wac_resolution_rules.specs.Includes.{HasInclude}

-- ---- interfaces

-- the entry of a function type, or of what an identifier of a function or function type denotes
abbrev pub IsFuncRef : Scope → FuncTypeRef → Meaning → Type 0
IsFuncRef scope (FuncTypeRef.func f) entry = IsFunc scope f entry
IsFuncRef scope (FuncTypeRef.ident x) entry = (k : Meaning) × StandsFor scope x.string k × IsA is_func_form k
    × (entry ≡ entry_of k)

-- an item of an interface turns the old body into the new one
abbrev pub HasInterfaceItem : Context → Scope → Body → InterfaceItem → Body → Type 0
HasInterfaceItem context root old (InterfaceItem.use_statement u) new = HasUse context root sides.Export old u new
HasInterfaceItem context root old (InterfaceItem.ty d) new = HasItem context.numbering sides.Export old d new
HasInterfaceItem context root old (InterfaceItem.interface_export x) new =
    (f : Meaning) × IsFuncRef old.scope x.ty f × IsFresh x.id.string old.exports
    × (new ≡ with_extern sides.Export old x.id.string (kind_of func f))

-- the entry of an interface, and the count of declared resources after it
abbrev pub IsInterface : Context → Scope → ℕ → Option (List ℕ) → List InterfaceItem → Meaning → ℕ → Type 0
IsInterface context root n id items entry after =
    (b : Body) × Steps (HasInterfaceItem context root) (empty_body n) items b
    × (entry ≡ interface_entry id b.uses b.exports) × (after ≡ b.resources)

-- ---- worlds

-- the kind of an import or export that is given a name: an identifier is looked up in the body, then at root
abbrev pub HasExternType : Context → Scope → Scope → ℕ → ExternType → Meaning → ℕ → Type 0
HasExternType context root scope n (ExternType.ident x) m after =
    (k : Meaning) × StandsFor (scope ++ root) x.string k × IsA is_func_or_interface_form k × (m ≡ promoted k)
    × (after ≡ n)
HasExternType context root scope n (ExternType.func f) m after = (entry : Meaning) × IsFunc scope f entry
    × (m ≡ kind_of func entry) × (after ≡ n)
HasExternType context root scope n (ExternType.interface i) m after =
    (entry : Meaning) × IsInterface context root n None i.items entry after × (m ≡ kind_of instance entry)

-- the id of an interface, under which it is imported or exported as an instance
abbrev pub id_or_empty : Meaning → List ℕ
id_or_empty k = unwrap_or (id_of (entry_of k)) []

-- an interface, as an instance under its id
abbrev pub HasInstance : ExternKind → Body → Meaning → Body → Type 0
HasInstance side old k new = IsA is_interface_form k × IsFresh (id_or_empty k) (externs side old)
    × (new ≡ with_extern side old (id_or_empty k) (promoted k))

-- an import or export
abbrev pub HasExtern : Context → Scope → ExternKind → Body → WorldItemPath → Body → Type 0
HasExtern context root side old (WorldItemPath.named x) new =
    IsFresh x.id.string (externs side old)
    × ((m : Meaning) × (n : ℕ) × HasExternType context root old.scope old.resources x.ty m n
    × (new ≡ with_extern side (with_count old n) x.id.string m))
HasExtern context root side old (WorldItemPath.path p) new = (k : Meaning) × LeadsTo context root p k
    × HasInstance side old k new
HasExtern context root side old (WorldItemPath.ident x) new = (k : Meaning) × StandsFor root x.string k
    × HasInstance side old k new

-- an item of a world turns the old body into the new one; includes come afterwards
abbrev pub HasWorldItem : Context → Scope → Body → WorldItem → Body → Type 0
HasWorldItem context root old (WorldItem.use_statement u) new = HasUse context root sides.Import old u new
HasWorldItem context root old (WorldItem.world_import x) new = HasExtern context root sides.Import old x.path new
HasWorldItem context root old (WorldItem.world_export x) new = HasExtern context root sides.Export old x.path new
HasWorldItem context root old (WorldItem.world_include x) new = new ≡ old
HasWorldItem context root old (WorldItem.ty d) new = HasItem context.numbering sides.Import old d new

abbrev pub include_in : WorldItem → Option WorldInclude
include_in (WorldItem.world_include x) = Some x
include_in _ = None

-- the includes among the items
abbrev pub includes_of : List WorldItem → List WorldInclude
includes_of items = filter_map include_in items

-- the entry of a world, and the count of declared resources after it
abbrev pub IsWorld : Context → Scope → ℕ → Option (List ℕ) → List WorldItem → Meaning → ℕ → Type 0
IsWorld context root n id items entry after =
    (mid : Body) × (b : Body) × Steps (HasWorldItem context root) (empty_body n) items mid
    × Steps (HasInclude context root) mid (includes_of items) b
    × (entry ≡ world_entry id b.uses b.imports b.exports) × (after ≡ b.resources)
