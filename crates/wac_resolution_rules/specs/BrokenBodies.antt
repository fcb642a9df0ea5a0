-- Which rule of paths and bodies an error says is broken, as in BrokenTypes.
use Rattle.std.specs.Prelude.{◌≡◌, ◌⊎◌, ℕ, suc, List, [], ◌∷◌, length, Option, Some, None, slice_get, Bool, true, false, codes}
use Rattle.std.specs.List.{join_with_byte}
use Rattle.wac_lexer.specs.Ascii.{slash}
use Rattle.wac_lexer.specs.Span.{Span}
use Rattle.wac_graph_types.specs.declared.kind.ExternKind.{ExternKind}
use Rattle.wac_graph_types.specs.declared.kind.FuncKind.{FuncKind}
use Rattle.wac_graph_types.specs.declared.kind.FuncKind.TheVariants as funcs
use Rattle.wac_graph_types.specs.Meaning.{Meaning}
use Rattle.wac_graph_types.specs.Scope.{Named, Scope, StandsFor, IsFresh}
use Rattle.wac_graph_types.specs.Steps.{Fails}
use Rattle.wac_graph_types.specs.Shape.{IsNoneOf, IsA, is_interface_form, is_resource_or_value_form, described, export_of, promoted}
use Rattle.wac_graph.specs.Origin.{Numbering}
use Rattle.wac_graph.specs.Resources.{resource_entry}
use Rattle.wac_graph.specs.Packages.{Contents, package_of}
use Rattle.wac_ast_grammar.specs.Tree.{Ident, PackagePath, UsePath, ResourceMethod, ItemTypeDecl, UseItem, Use}
use Rattle.wac_ast_grammar.specs.Segments.{segment_spans, package_name_span}
use Rattle.wac_resolution_errors.specs.Error.{Error, undefined_name, duplicate_name, duplicate_interface_export, duplicate_world_item, not_interface, undefined_interface_type, not_interface_value_type, duplicate_resource_constructor, duplicate_resource_method, unknown_package, package_missing_export, package_path_missing_export, use_conflict}
use Rattle.wac_resolution_rules.specs.Paths.{Context, is_own, key_of_path, segments_of, IsMember, UseNames}
use Rattle.wac_resolution_rules.specs.Declarations.{IsVariant, IsRecord, IsFlags, IsEnum, IsAlias, in_body}
use Rattle.wac_resolution_rules.specs.Types.{first_params}
use Rattle.wac_resolution_rules.specs.Bodies.{Body, externs, constructor_name, method_name, static_name, HasMethod, with_resource, used_as, UsesItem}
use Rattle.wac_resolution_rules.specs.BrokenTypes.{IsUndefined, IsRepeated, IsTaken, ParamsBroken, FuncBroken}
use Rattle.wac_resolution_rules.specs.BrokenDeclarations.{VariantBroken, RecordBroken, FlagsBroken, EnumBroken, AliasBroken}
use Rattle.wac_resolution_rules.specs.Spans.{use_path_name, use_path_span}

-- ---- paths

-- the package of a path is not given
abbrev pub IsUnknownPathPackage : Context → PackagePath → Error → Type 0
IsUnknownPathPackage context p e = (package_of (key_of_path p) context.packages ≡ None)
    × (e ≡ unknown_package p.name (package_name_span p))

-- segment number n, and its span
abbrev pub StandsAt : PackagePath → ℕ → List ℕ → Span → Type 0
StandsAt p n segment at = slice_get (segment_spans p) n ≡ Some (segment, at)

-- the first segment of a path is none of the names among which it begins
abbrev pub IsNoBeginning : Named Meaning → PackagePath → List ℕ → (Span → Error) → Error → Type 0
IsNoBeginning names p first error e = (at : Span) × IsFresh first names × StandsAt p 0 first at × (e ≡ error at)

-- the last of some names
abbrev pub last_of : List ℕ → List (List ℕ) → List ℕ
last_of first [] = first
last_of first (x ∷ xs) = last_of x xs

-- what the segments before it resolve to does not export the segment: in a path of the document's own package
abbrev pub IsNoExport : PackagePath → List ℕ → Error → Meaning → List (List ℕ) → List ℕ → Type 0
IsNoExport p first e k before segment = (at : Span) × (export_of k segment ≡ None)
    × StandsAt p (suc (length before)) segment at
    × (e ≡ package_path_missing_export (last_of first before) (described k) segment at)

-- the same in a path of another package
abbrev pub IsNoPackageExport : PackagePath → List ℕ → Error → Meaning → List (List ℕ) → List ℕ → Type 0
IsNoPackageExport p first e k before segment = (at : Span) × (export_of k segment ≡ None)
    × StandsAt p (suc (length before)) segment at
    × (e ≡ package_missing_export (Some (described k)) (join_with_byte slash (first ∷ before)) p.name segment at)

abbrev pub OwnPathBroken : Scope → PackagePath → List (List ℕ) → Error → Type 0
OwnPathBroken root p [] e = ⊥
OwnPathBroken root p (first ∷ rest) e = IsNoBeginning root p first (undefined_name first) e
    ⊎ ((k : Meaning) × StandsFor root first k × Fails IsMember (IsNoExport p first e) k rest)

abbrev pub ForeignPathBroken : Named Meaning → PackagePath → List (List ℕ) → Error → Type 0
ForeignPathBroken definitions p [] e = ⊥
ForeignPathBroken definitions p (first ∷ rest) e =
    IsNoBeginning definitions p first (package_missing_export None [] p.name first) e
    ⊎ ((k : Meaning) × StandsFor definitions first k × Fails IsMember (IsNoPackageExport p first e) k rest)

abbrev pub path_broken : Bool → Context → Scope → PackagePath → Error → Type 0
path_broken true context root p e = OwnPathBroken root p (segments_of p) e
path_broken false context root p e = IsUnknownPathPackage context p e
    ⊎ ((c : Contents) × (package_of (key_of_path p) context.packages ≡ Some c)
    × ForeignPathBroken c.definitions p (segments_of p) e)

abbrev pub PathBroken : Context → Scope → PackagePath → Error → Type 0
PathBroken context root p e = path_broken (is_own context p) context root p e

-- ---- names in a body

-- whose body it is: perhaps the interface's name, or the world's
pub data Owner : Type 0 where
  of_interface : Option (List ℕ) → Owner
  of_world : List ℕ → Owner

-- the identifier is bound in the body already
abbrev pub IsBoundInBody : Named Span → Scope → Ident → Error → Type 0
IsBoundInBody places scope x e = IsTaken scope places x.string (duplicate_name x.string x.span) e

abbrev pub conflict : Owner → ExternKind → List ℕ → Span → Error
conflict (of_interface name) side x at = duplicate_interface_export x name at
conflict (of_world name) side x at = duplicate_world_item side x name at

-- the name is among the externs already
abbrev pub IsConflict : Owner → ExternKind → Body → List ℕ → Span → Error → Type 0
IsConflict of side old x at e = IsRepeated (externs side old) x (conflict of side x at) e

-- the identifier is bound already, or its name is among the externs
abbrev pub NameBroken : Owner → ExternKind → Named Span → Body → Ident → Error → Type 0
NameBroken of side places old x e = IsBoundInBody places old.scope x e
    ⊎ (IsFresh x.string old.scope × IsConflict of side old x.string x.span e)

-- ---- resources

-- the resource has a method of that name already
abbrev pub IsSecondMethod : ExternKind → List ℕ → Body → Ident → Error → Type 0
IsSecondMethod side resource old x e =
    (m : Meaning) × (StandsFor (externs side old) (method_name resource x.string) m
    ⊎ StandsFor (externs side old) (static_name resource x.string) m)
    × (e ≡ duplicate_resource_method x.string resource x.span)

abbrev pub method_kind : Bool → FuncKind
method_kind true = funcs.Static
method_kind false = funcs.Method

-- the resource has a constructor already, or such a method; or the parameters or the function have no meaning
abbrev pub MethodBroken : ExternKind → List ℕ → Meaning → Error → Body → List ResourceMethod → ResourceMethod → Type 0
MethodBroken side resource entry e old before (ResourceMethod.constructor c) =
    IsRepeated (externs side old) (constructor_name resource) (duplicate_resource_constructor resource c.span) e
    ⊎ (IsFresh (constructor_name resource) (externs side old) × ParamsBroken funcs.Constructor old.scope [] c.params e)
MethodBroken side resource entry e old before (ResourceMethod.method x) =
    IsSecondMethod side resource old x.id e
    ⊎ (IsFresh (method_name resource x.id.string) (externs side old)
    × IsFresh (static_name resource x.id.string) (externs side old)
    × FuncBroken (method_kind x.is_static) old.scope (first_params x.is_static entry) x.ty e)

-- ---- declarations of types in a body

abbrev pub ItemBroken : Numbering → Owner → ExternKind → Named Span → Body → ItemTypeDecl → Error → Type 0
ItemBroken numbering of side places old (ItemTypeDecl.resource d) e =
    NameBroken of side places old d.id e
    ⊎ (IsFresh d.id.string old.scope × IsFresh d.id.string (externs side old)
    × Fails (HasMethod side d.id.string (resource_entry numbering old.resources d.id.string))
    (MethodBroken side d.id.string (resource_entry numbering old.resources d.id.string) e)
    (with_resource numbering side old d.id.string) d.methods)
ItemBroken numbering of side places old (ItemTypeDecl.variant d) e = VariantBroken old.scope d e
    ⊎ ((m : Meaning) × IsVariant old.scope d m × NameBroken of side places old d.id e)
ItemBroken numbering of side places old (ItemTypeDecl.record_decl d) e = RecordBroken old.scope d e
    ⊎ ((m : Meaning) × IsRecord old.scope d m × NameBroken of side places old d.id e)
ItemBroken numbering of side places old (ItemTypeDecl.flags d) e = FlagsBroken d e
    ⊎ ((m : Meaning) × IsFlags d m × NameBroken of side places old d.id e)
ItemBroken numbering of side places old (ItemTypeDecl.enum d) e = EnumBroken d e
    ⊎ ((m : Meaning) × IsEnum d m × NameBroken of side places old d.id e)
ItemBroken numbering of side places old (ItemTypeDecl.alias d) e =
    AliasBroken (in_body numbering) old.scope old.resources d.id.string d.kind e
    ⊎ ((m : Meaning) × (n : ℕ) × IsAlias (in_body numbering) old.scope old.resources d.id.string d.kind m n
    × NameBroken of side places old d.id e)

-- ---- use

abbrev pub UsePathBroken : Context → Scope → UsePath → Error → Type 0
UsePathBroken context root (UsePath.path p) e = PathBroken context root p e
UsePathBroken context root (UsePath.ident x) e = IsUndefined root x e

-- what is named is not an interface
abbrev pub IsNoInterface : Meaning → List ℕ → Span → Error → Type 0
IsNoInterface k name at e = IsNoneOf is_interface_form k × (e ≡ not_interface name (described k) at)

-- the interface exports nothing under the name
abbrev pub IsNoTypeThere : Meaning → List ℕ → UseItem → Error → Type 0
IsNoTypeThere interface path x e = (export_of interface x.id.string ≡ None)
    × (e ≡ undefined_interface_type x.id.string path x.id.span)

-- what it exports is neither a resource nor a type of values
abbrev pub IsNoUsableType : Meaning → List ℕ → UseItem → Error → Type 0
IsNoUsableType interface path x e = (m : Meaning) × (export_of interface x.id.string ≡ Some m)
    × IsNoneOf is_resource_or_value_form m × (e ≡ not_interface_value_type x.id.string (described m) path x.id.span)

-- it exports a resource or a type of values
abbrev pub IsUsable : Meaning → UseItem → Type 0
IsUsable interface x = (m : Meaning) × (export_of interface x.id.string ≡ Some m) × IsA is_resource_or_value_form m

abbrev pub as_clause : List ℕ
as_clause = codes "consider using an `as` clause to use a different name"

-- the help, where no name is written
abbrev pub help_unless : {X : Type 0} → Option X → Option (List ℕ)
help_unless None = Some as_clause
help_unless (Some x) = None

-- the name here is among the externs already
abbrev pub IsUseConflict : ExternKind → Body → UseItem → Error → Type 0
IsUseConflict side old x e = IsRepeated (externs side old) (used_as x).string
    (use_conflict side (used_as x).string (used_as x).span (help_unless x.as_id)) e

abbrev pub UseItemBroken : ExternKind → Meaning → List ℕ → Error → Body → List UseItem → UseItem → Type 0
UseItemBroken side interface path e old before x = IsNoTypeThere interface path x e
    ⊎ (IsNoUsableType interface path x e ⊎ (IsUsable interface x × IsUseConflict side old x e))

abbrev pub UseBroken : Context → Scope → ExternKind → Body → Use → Error → Type 0
UseBroken context root side old u e =
    UsePathBroken context root u.path e
    ⊎ ((k : Meaning) × UseNames context root u.path k × (IsNoInterface k (use_path_name u.path) (use_path_span u.path) e
    ⊎ (IsA is_interface_form k
    × Fails (UsesItem side (promoted k)) (UseItemBroken side (promoted k) (use_path_name u.path) e) old u.items)))
