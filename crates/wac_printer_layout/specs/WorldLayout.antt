-- How worlds are printed.
use Rattle.std.specs.Prelude.{◌≡◌, ℕ, true, List, [], ◌∷◌, ◌++◌, codes, refl}
use Rattle.wac_ast_grammar.specs.Tree as tree
use Rattle.wac_ast_grammar.specs.Tree.{Ident, ExternType, NamedWorldItem, WorldItemPath, WorldImport, WorldExport, WorldRef, WorldIncludeItem, WorldInclude, WorldItem, WorldDecl}
use Rattle.wac_printer_layout.specs.Printed.{Piece, token, line, text}
use Rattle.wac_printer_layout.specs.Parts.{space, body, rows, docs_layout}
use Rattle.wac_printer_layout.specs.TypeLayout.{func_type_layout}
use Rattle.wac_printer_layout.specs.DeclarationLayout.{head_layout, item_type_decl_layout}
use Rattle.wac_printer_layout.specs.InterfaceLayout.{use_layout, inline_interface_layout}
use Rattle.wac_printer_layout.specs.Bare.{nowhere}

unfoldable pub extern_type_layout : ℕ → ExternType → List Piece
extern_type_layout depth (tree.ExternType.ident x) = token x.string ∷ []
extern_type_layout depth (tree.ExternType.func x) = func_type_layout x
extern_type_layout depth (tree.ExternType.interface x) = inline_interface_layout depth x

abbrev pub named_world_item_layout : ℕ → NamedWorldItem → List Piece
named_world_item_layout depth x = token x.id.string ∷ token (codes ":") ∷ space ∷ extern_type_layout depth x.ty

unfoldable pub world_item_path_layout : ℕ → WorldItemPath → List Piece
world_item_path_layout depth (tree.WorldItemPath.path x) = token x.string ∷ []
world_item_path_layout depth (tree.WorldItemPath.named x) = named_world_item_layout depth x
world_item_path_layout depth (tree.WorldItemPath.ident x) = token x.string ∷ []

abbrev pub world_import_layout : ℕ → WorldImport → List Piece
world_import_layout depth x = docs_layout depth x.docs ++ (line depth ∷ token (codes "import") ∷ space ∷ (world_item_path_layout depth x.path ++ token (codes ";") ∷ []))

abbrev pub world_export_layout : ℕ → WorldExport → List Piece
world_export_layout depth x = docs_layout depth x.docs ++ (line depth ∷ token (codes "export") ∷ space ∷ (world_item_path_layout depth x.path ++ token (codes ";") ∷ []))

abbrev pub world_ref_layout : WorldRef → List Piece
world_ref_layout (tree.WorldRef.path x) = token x.string ∷ []
world_ref_layout (tree.WorldRef.ident x) = token x.string ∷ []

-- `ID as ID` on a line
abbrev pub world_include_item_layout : ℕ → WorldIncludeItem → List Piece
world_include_item_layout depth x = line depth ∷ token x.from.string ∷ space ∷ token (codes "as") ∷ space ∷ token x.to.string ∷ []

-- nothing where the list is empty
abbrev pub with_layout : ℕ → List WorldIncludeItem → List Piece
with_layout depth [] = []
with_layout depth (x ∷ xs) = space ∷ token (codes "with") ∷ rows world_include_item_layout depth (x ∷ xs)

abbrev pub world_include_layout : ℕ → WorldInclude → List Piece
world_include_layout depth x =
    docs_layout depth x.docs ++ (line depth ∷ token (codes "include") ∷ space ∷ (world_ref_layout x.world ++ (with_layout depth x.items ++ token (codes ";") ∷ [])))

unfoldable pub world_item_layout : ℕ → WorldItem → List Piece
world_item_layout depth (tree.WorldItem.use_statement x) = use_layout depth x
world_item_layout depth (tree.WorldItem.world_import x) = world_import_layout depth x
world_item_layout depth (tree.WorldItem.world_export x) = world_export_layout depth x
world_item_layout depth (tree.WorldItem.world_include x) = world_include_layout depth x
world_item_layout depth (tree.WorldItem.ty x) = item_type_decl_layout depth x

abbrev pub world_decl_layout : ℕ → WorldDecl → List Piece
world_decl_layout depth x = docs_layout depth x.docs ++ (head_layout depth (codes "world") x.id ++ body world_item_layout depth x.items)

abbrev named : List ℕ → Ident
named text = record { string = text; span = nowhere }

include_1 : text (codes "\t") true (world_include_layout 1 (record { docs = []; world = tree.WorldRef.ident (named (codes "w")); items = record { from = named (codes "a"); to = named (codes "b") } ∷ [] })) ≡ codes "\tinclude w with {\n\t\ta as b,\n\t};"
unfolding rows docs_layout
include_1 = refl

include_2 : text (codes "\t") true (world_include_layout 1 (record { docs = []; world = tree.WorldRef.ident (named (codes "w")); items = [] })) ≡ codes "\tinclude w;"
unfolding docs_layout
include_2 = refl
