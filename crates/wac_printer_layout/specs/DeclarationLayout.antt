-- How declarations of types are printed.
use Rattle.std.specs.Prelude.{◌≡◌, ℕ, Bool, true, false, List, [], ◌∷◌, ◌++◌, Option, Some, None, codes, refl}
use Rattle.wac_ast_grammar.specs.Tree as tree
use Rattle.wac_ast_grammar.specs.Tree.{Ident, Ty, Constructor, Method, ResourceMethod, ResourceDecl, VariantCase, VariantDecl, Field, RecordDecl, Flag, FlagsDecl, EnumCase, EnumDecl, TypeAliasKind, TypeAlias, TypeDecl, ItemTypeDecl}
use Rattle.wac_printer_layout.specs.Printed.{Piece, token, line, text}
use Rattle.wac_printer_layout.specs.Parts.{space, body, rows, docs_layout, spaced}
use Rattle.wac_printer_layout.specs.TypeLayout.{ty_layout, func_type_layout, params_layout}
use Rattle.wac_printer_layout.specs.Bare.{nowhere}

-- `KEYWORD ID` on a line
abbrev pub head_layout : ℕ → List ℕ → Ident → List Piece
head_layout depth keyword id = line depth ∷ token keyword ∷ space ∷ token id.string ∷ []

-- `ID: ` on a line
abbrev pub label_layout : ℕ → Ident → List Piece
label_layout depth id = line depth ∷ token id.string ∷ token (codes ":") ∷ space ∷ []

abbrev pub constructor_layout : ℕ → Constructor → List Piece
constructor_layout depth x = docs_layout depth x.docs ++ (line depth ∷ token (codes "constructor") ∷ (params_layout x.params ++ token (codes ";") ∷ []))

abbrev pub static_layout : Bool → List Piece
static_layout true = token (codes "static") ∷ space ∷ []
static_layout false = []

abbrev pub method_layout : ℕ → Method → List Piece
method_layout depth x = docs_layout depth x.docs ++ (label_layout depth x.id ++ (static_layout x.is_static ++ (func_type_layout x.ty ++ token (codes ";") ∷ [])))

unfoldable pub resource_method_layout : ℕ → ResourceMethod → List Piece
resource_method_layout depth (tree.ResourceMethod.constructor x) = constructor_layout depth x
resource_method_layout depth (tree.ResourceMethod.method x) = method_layout depth x

abbrev pub resource_decl_layout : ℕ → ResourceDecl → List Piece
resource_decl_layout depth x = docs_layout depth x.docs ++ (head_layout depth (codes "resource") x.id ++ body resource_method_layout depth x.methods)

-- nothing, or a type in parentheses
abbrev pub payload_layout : Option Ty → List Piece
payload_layout None = []
payload_layout (Some x) = token (codes "(") ∷ (ty_layout x ++ token (codes ")") ∷ [])

abbrev pub variant_case_layout : ℕ → VariantCase → List Piece
variant_case_layout depth x = docs_layout depth x.docs ++ (line depth ∷ token x.id.string ∷ payload_layout x.ty)

abbrev pub variant_decl_layout : ℕ → VariantDecl → List Piece
variant_decl_layout depth x = docs_layout depth x.docs ++ (head_layout depth (codes "variant") x.id ++ rows variant_case_layout depth x.cases)

abbrev pub field_layout : ℕ → Field → List Piece
field_layout depth x = docs_layout depth x.docs ++ (label_layout depth x.id ++ ty_layout x.ty)

abbrev pub record_decl_layout : ℕ → RecordDecl → List Piece
record_decl_layout depth x = docs_layout depth x.docs ++ (head_layout depth (codes "record") x.id ++ rows field_layout depth x.fields)

abbrev pub flag_layout : ℕ → Flag → List Piece
flag_layout depth x = docs_layout depth x.docs ++ (line depth ∷ token x.id.string ∷ [])

abbrev pub flags_decl_layout : ℕ → FlagsDecl → List Piece
flags_decl_layout depth x = docs_layout depth x.docs ++ (head_layout depth (codes "flags") x.id ++ rows flag_layout depth x.flags)

abbrev pub enum_case_layout : ℕ → EnumCase → List Piece
enum_case_layout depth x = docs_layout depth x.docs ++ (line depth ∷ token x.id.string ∷ [])

abbrev pub enum_decl_layout : ℕ → EnumDecl → List Piece
enum_decl_layout depth x = docs_layout depth x.docs ++ (head_layout depth (codes "enum") x.id ++ rows enum_case_layout depth x.cases)

unfoldable pub alias_kind_layout : TypeAliasKind → List Piece
alias_kind_layout (tree.TypeAliasKind.func x) = func_type_layout x
alias_kind_layout (tree.TypeAliasKind.ty x) = ty_layout x

abbrev pub type_alias_layout : ℕ → TypeAlias → List Piece
type_alias_layout depth x =
    docs_layout depth x.docs ++ (head_layout depth (codes "type") x.id ++ space ∷ token (codes "=") ∷ space ∷ (alias_kind_layout x.kind ++ token (codes ";") ∷ []))

unfoldable pub type_decl_layout : ℕ → TypeDecl → List Piece
type_decl_layout depth (tree.TypeDecl.variant x) = variant_decl_layout depth x
type_decl_layout depth (tree.TypeDecl.record_decl x) = record_decl_layout depth x
type_decl_layout depth (tree.TypeDecl.flags x) = flags_decl_layout depth x
type_decl_layout depth (tree.TypeDecl.enum x) = enum_decl_layout depth x
type_decl_layout depth (tree.TypeDecl.alias x) = type_alias_layout depth x

unfoldable pub item_type_decl_layout : ℕ → ItemTypeDecl → List Piece
item_type_decl_layout depth (tree.ItemTypeDecl.resource x) = resource_decl_layout depth x
item_type_decl_layout depth (tree.ItemTypeDecl.variant x) = variant_decl_layout depth x
item_type_decl_layout depth (tree.ItemTypeDecl.record_decl x) = record_decl_layout depth x
item_type_decl_layout depth (tree.ItemTypeDecl.flags x) = flags_decl_layout depth x
item_type_decl_layout depth (tree.ItemTypeDecl.enum x) = enum_decl_layout depth x
item_type_decl_layout depth (tree.ItemTypeDecl.alias x) = type_alias_layout depth x

abbrev named : List ℕ → Ident
named text = record { string = text; span = nowhere }

flags_1 : text (codes "\t") true (flags_decl_layout 0 (record { docs = record { comment = codes "d"; span = nowhere } ∷ []; id = named (codes "f"); flags = record { docs = []; id = named (codes "a") } ∷ [] })) ≡ codes "/// d\nflags f {\n\ta,\n}"
unfolding rows docs_layout
flags_1 = refl

resource_1 : text (codes "\t") true (resource_decl_layout 0 (record { docs = []; id = named (codes "r"); methods = [] })) ≡ codes "resource r {\n}"
unfolding body spaced docs_layout
resource_1 = refl
