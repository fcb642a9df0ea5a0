-- Which rule of interfaces, worlds and type statements an error says is broken, as in BrokenTypes.
use Rattle.std.specs.Prelude.{◌≡◌, ◌⊎◌, ℕ, List, [], ◌∷◌, ◌++◌, Option, Some, None, codes, find, false}
use Rattle.std.specs.Str.{bytes_eq}
use Rattle.wac_lexer.specs.Span.{Span}
use Rattle.wac_graph_types.specs.declared.kind.ExternKind.{ExternKind}
use Rattle.wac_graph_types.specs.declared.kind.ExternKind.TheVariants as sides
use Rattle.wac_graph_types.specs.declared.kind.FuncKind.TheVariants as funcs
use Rattle.wac_graph_types.specs.Meaning.{Meaning}
use Rattle.wac_graph_types.specs.Scope.{Scope, look_up, StandsFor, IsFresh}
use Rattle.wac_graph_types.specs.Steps.{Steps, Fails}
use Rattle.wac_graph_types.specs.Shape.{IsA, IsNoneOf, is_func_form, is_interface_form, is_func_or_interface_form, is_world_form, described, entry_of, imports_of, exports_of}
use Rattle.wac_ast_grammar.specs.Tree.{Ident, FuncTypeRef, InterfaceItem, ExternType, WorldItemPath, WorldItem, WorldRef, WorldIncludeItem, WorldInclude, TypeStatement}
use Rattle.wac_ast_grammar.specs.Spans.{world_ref_name, world_ref_span}
use Rattle.wac_resolution_errors.specs.Error.{Error, not_func_or_interface, duplicate_world_include_name, not_world, missing_world_include, world_include_conflict, not_func_type, declaration_conflict, duplicate_name}
use Rattle.wac_resolution_rules.specs.Paths.{Context, LeadsTo, WorldNames}
use Rattle.wac_resolution_rules.specs.Bodies.{Body, empty_body, externs}
use Rattle.wac_resolution_rules.specs.Includes.{Entries, HasEntry, has_colon, Taking, taking, name_taken, Takes, HasInclude}
use Rattle.wac_resolution_rules.specs.Worlds.{IsFuncRef, HasInterfaceItem, id_or_empty, HasWorldItem, includes_of}
use Rattle.wac_resolution_rules.specs.TypeStatements.{identifier_of, DeclaresKind}
use Rattle.wac_resolution_rules.specs.Composition.{Composition, root_scope}
use Rattle.wac_resolution_rules.specs.BrokenTypes.{IsUndefined, DenotesNo, IsRepeated, IsTaken, FuncBroken}
use Rattle.wac_resolution_rules.specs.BrokenDeclarations.{TypeDeclBroken}
use Rattle.wac_resolution_rules.specs.BrokenBodies.{Owner, of_interface, of_world, PathBroken, IsConflict, ItemBroken, UseBroken, IsNoInterface}
use Rattle.wac_resolution_rules.specs.Places.{Places, bound_in_interface, bound_in_world}

-- ---- interfaces

abbrev pub FuncRefBroken : Scope → FuncTypeRef → Error → Type 0
FuncRefBroken scope (FuncTypeRef.func f) e = FuncBroken funcs.Free scope [] f e
FuncRefBroken scope (FuncTypeRef.ident x) e = IsUndefined scope x e
    ⊎ DenotesNo is_func_form not_func_type scope x e

abbrev pub InterfaceItemBroken : Context → Scope → Owner → Error → Body → List InterfaceItem → InterfaceItem → Type 0
InterfaceItemBroken context root of e old before (InterfaceItem.use_statement u) =
    UseBroken context root sides.Export old u e
InterfaceItemBroken context root of e old before (InterfaceItem.ty d) =
    ItemBroken context.numbering of sides.Export (bound_in_interface before) old d e
InterfaceItemBroken context root of e old before (InterfaceItem.interface_export x) =
    FuncRefBroken old.scope x.ty e
    ⊎ ((f : Meaning) × IsFuncRef old.scope x.ty f × IsConflict of sides.Export old x.id.string x.id.span e)

abbrev pub InterfaceBroken : Context → Scope → Option (List ℕ) → ℕ → List InterfaceItem → Error → Type 0
InterfaceBroken context root name n items e =
    Fails (HasInterfaceItem context root) (InterfaceItemBroken context root (of_interface name) e) (empty_body n) items

-- ---- items of worlds

abbrev pub ExternTypeBroken : Context → Scope → Scope → ℕ → ExternType → Error → Type 0
ExternTypeBroken context root scope n (ExternType.ident x) e = IsUndefined (scope ++ root) x e
    ⊎ DenotesNo is_func_or_interface_form not_func_or_interface (scope ++ root) x e
ExternTypeBroken context root scope n (ExternType.func f) e = FuncBroken funcs.Free scope [] f e
ExternTypeBroken context root scope n (ExternType.interface i) e = InterfaceBroken context root None n i.items e

abbrev pub InstanceBroken : Owner → ExternKind → Body → Meaning → List ℕ → Span → Error → Type 0
InstanceBroken of side old k name at e = IsNoInterface k name at e
    ⊎ (IsA is_interface_form k × IsConflict of side old (id_or_empty k) at e)

abbrev pub ExternBroken : Context → Scope → Owner → ExternKind → Body → WorldItemPath → Error → Type 0
ExternBroken context root of side old (WorldItemPath.named x) e =
    IsConflict of side old x.id.string x.id.span e
    ⊎ (IsFresh x.id.string (externs side old) × ExternTypeBroken context root old.scope old.resources x.ty e)
ExternBroken context root of side old (WorldItemPath.path p) e = PathBroken context root p e
    ⊎ ((k : Meaning) × LeadsTo context root p k × InstanceBroken of side old k p.string p.span e)
ExternBroken context root of side old (WorldItemPath.ident x) e = IsUndefined root x e
    ⊎ ((k : Meaning) × StandsFor root x.string k × InstanceBroken of side old k x.string x.span e)

abbrev pub WorldItemBroken : Context → Scope → Owner → Error → Body → List WorldItem → WorldItem → Type 0
WorldItemBroken context root of e old before (WorldItem.use_statement u) = UseBroken context root sides.Import old u e
WorldItemBroken context root of e old before (WorldItem.world_import x) =
    ExternBroken context root of sides.Import old x.path e
WorldItemBroken context root of e old before (WorldItem.world_export x) =
    ExternBroken context root of sides.Export old x.path e
WorldItemBroken context root of e old before (WorldItem.world_include x) = ⊥
WorldItemBroken context root of e old before (WorldItem.ty d) =
    ItemBroken context.numbering of sides.Import (bound_in_world before) old d e

-- ---- include

-- an earlier entry renames the same name
abbrev pub IsSecondEntry : Error → Entries → List WorldIncludeItem → WorldIncludeItem → Type 0
IsSecondEntry e old before x =
    IsRepeated old x.from.string (duplicate_world_include_name x.from.string x.from.span) e

abbrev pub WorldRefBroken : Context → Scope → WorldRef → Error → Type 0
WorldRefBroken context root (WorldRef.path p) e = PathBroken context root p e
WorldRefBroken context root (WorldRef.ident x) e = IsUndefined root x e

-- what is named is neither a world nor a component
abbrev pub IsNoWorld : Meaning → WorldRef → Error → Type 0
IsNoWorld k r e = IsNoneOf is_world_form k × (e ≡ not_world (world_ref_name r) (described k) (world_ref_span r))

-- the entry of a `with` clause that renames a name
abbrev pub entry_named : List ℕ → List WorldIncludeItem → Option WorldIncludeItem
entry_named name items = find (λ i. bytes_eq name i.from.string) items

abbrev pub span_of_entry : Option WorldIncludeItem → Span → Span
span_of_entry None at = at
span_of_entry (Some i) at = i.to.span

-- where a name comes from: the entry that renames it, else the included world
abbrev pub span_taken : WorldInclude → Entries → List ℕ → Span
span_taken x entries name = elim (look_up name entries)
    [ None ↦ world_ref_span x.world | Some to ↦ span_of_entry (entry_named name x.items) (world_ref_span x.world) ]

abbrev pub with_clause : List ℕ
with_clause = codes "consider using a `with` clause to use a different name"

abbrev pub help_of_include : List WorldIncludeItem → Option (List ℕ)
help_of_include [] = Some with_clause
help_of_include (i ∷ is) = None

-- a name without a colon, after renaming, exists already
abbrev pub IsIncludeConflict : WorldInclude → List ℕ → ExternKind → Error → Taking → List (List ℕ × Meaning)
    → List ℕ × Meaning → Type 0
IsIncludeConflict x world side e old before n =
    (m : Meaning) × (has_colon n.0 ≡ false) × StandsFor old.there (name_taken old.entries n.0) m
    × (e ≡ world_include_conflict side (name_taken old.entries n.0) (world_ref_name x.world) world
    (span_taken x old.entries n.0) (help_of_include x.items))

-- an entry is left over: the first
abbrev pub IsLeftOver : WorldInclude → Entries → Error → Type 0
IsLeftOver x [] e = ⊥
IsLeftOver x (left ∷ more) e = (i : WorldIncludeItem) × (entry_named left.0 x.items ≡ Some i)
    × (e ≡ missing_world_include (world_ref_name x.world) left.0 i.from.span)

-- taking over the names of a world
abbrev pub TakingBroken : WorldInclude → List ℕ → Entries → Meaning → Body → Error → Type 0
TakingBroken x world entries entry old e =
    Fails Takes (IsIncludeConflict x world sides.Import e) (taking entries old.imports) (imports_of entry)
    ⊎ ((a : Taking) × Steps Takes (taking entries old.imports) (imports_of entry) a
    × (Fails Takes (IsIncludeConflict x world sides.Export e) (taking a.entries old.exports) (exports_of entry)
    ⊎ ((b : Taking) × Steps Takes (taking a.entries old.exports) (exports_of entry) b × IsLeftOver x b.entries e)))

abbrev pub IncludeBroken : Context → Scope → List ℕ → Error → Body → List WorldInclude → WorldInclude → Type 0
IncludeBroken context root world e old before x =
    Fails HasEntry (IsSecondEntry e) [] x.items
    ⊎ ((entries : Entries) × Steps HasEntry [] x.items entries
    × (WorldRefBroken context root x.world e
    ⊎ ((k : Meaning) × WorldNames context root x.world k
    × (IsNoWorld k x.world e
    ⊎ (IsA is_world_form k × TakingBroken x world entries (entry_of k) old e)))))

abbrev pub WorldBroken : Context → Scope → List ℕ → ℕ → List WorldItem → Error → Type 0
WorldBroken context root name n items e =
    Fails (HasWorldItem context root) (WorldItemBroken context root (of_world name) e) (empty_body n) items
    ⊎ ((mid : Body) × Steps (HasWorldItem context root) (empty_body n) items mid
    × Fails (HasInclude context root) (IncludeBroken context root name e) mid (includes_of items))

-- ---- type statements

-- the name was exported
abbrev pub IsExported : Composition → Places → Ident → Error → Type 0
IsExported old places x e = IsTaken old.exports places.exported x.string (declaration_conflict x.string x.span) e

-- the identifier is bound at root already
abbrev pub IsBound : Composition → Places → Ident → Error → Type 0
IsBound old places x e = IsTaken old.declared places.bound x.string (duplicate_name x.string x.span) e

abbrev pub DefinitionBroken : Composition → Places → Ident → Error → Type 0
DefinitionBroken old places x e = IsExported old places x e ⊎ (IsFresh x.string old.exports × IsBound old places x e)

-- the declared type has no meaning
abbrev pub KindBroken : Context → Composition → TypeStatement → Error → Type 0
KindBroken context old (TypeStatement.interface d) e =
    InterfaceBroken context (root_scope old) (Some d.id.string) old.resources d.items e
KindBroken context old (TypeStatement.world d) e =
    WorldBroken context (root_scope old) d.id.string old.resources d.items e
KindBroken context old (TypeStatement.ty d) e = TypeDeclBroken (root_scope old) old.resources d e

-- a type statement breaks the rule that the error names
abbrev pub DeclarationBroken : Context → Composition → Places → TypeStatement → Error → Type 0
DeclarationBroken context old places s e = KindBroken context old s e
    ⊎ ((m : Meaning) × (n : ℕ) × DeclaresKind context old s m n × DefinitionBroken old places (identifier_of s) e)
