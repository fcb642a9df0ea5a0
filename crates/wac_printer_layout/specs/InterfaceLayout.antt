-- How interfaces are printed.
use Rattle.std.specs.Prelude.{◌≡◌, ℕ, true, List, [], ◌∷◌, ◌++◌, Option, Some, None, codes, refl}
use Rattle.wac_ast_grammar.specs.Tree as tree
use Rattle.wac_ast_grammar.specs.Tree.{Ident, UsePath, UseItem, Use, InterfaceExport, InterfaceItem, InterfaceDecl, InlineInterface}
use Rattle.wac_printer_layout.specs.Printed.{Piece, token, line, text}
use Rattle.wac_printer_layout.specs.Parts.{space, joined, body, docs_layout}
use Rattle.wac_printer_layout.specs.TypeLayout.{func_type_ref_layout}
use Rattle.wac_printer_layout.specs.DeclarationLayout.{head_layout, label_layout, item_type_decl_layout}
use Rattle.wac_printer_layout.specs.Bare.{nowhere}

abbrev pub use_path_layout : UsePath → List Piece
use_path_layout (tree.UsePath.path x) = token x.string ∷ []
use_path_layout (tree.UsePath.ident x) = token x.string ∷ []

-- nothing, or ` as ID`
abbrev pub as_layout : Option Ident → List Piece
as_layout None = []
as_layout (Some x) = space ∷ token (codes "as") ∷ space ∷ token x.string ∷ []

abbrev pub use_item_layout : UseItem → List Piece
use_item_layout x = token x.id.string ∷ as_layout x.as_id

-- `.{ items }`
abbrev pub use_items_layout : List UseItem → List Piece
use_items_layout items = token (codes ".") ∷ token (codes "{") ∷ space ∷ (joined use_item_layout items ++ space ∷ token (codes "}") ∷ [])

abbrev pub use_layout : ℕ → Use → List Piece
use_layout depth x =
    docs_layout depth x.docs ++ (line depth ∷ token (codes "use") ∷ space ∷ (use_path_layout x.path ++ (use_items_layout x.items ++ token (codes ";") ∷ [])))

abbrev pub interface_export_layout : ℕ → InterfaceExport → List Piece
interface_export_layout depth x = docs_layout depth x.docs ++ (label_layout depth x.id ++ (func_type_ref_layout x.ty ++ token (codes ";") ∷ []))

unfoldable pub interface_item_layout : ℕ → InterfaceItem → List Piece
interface_item_layout depth (tree.InterfaceItem.use_statement x) = use_layout depth x
interface_item_layout depth (tree.InterfaceItem.interface_export x) = interface_export_layout depth x
interface_item_layout depth (tree.InterfaceItem.ty x) = item_type_decl_layout depth x

abbrev pub interface_decl_layout : ℕ → InterfaceDecl → List Piece
interface_decl_layout depth x = docs_layout depth x.docs ++ (head_layout depth (codes "interface") x.id ++ body interface_item_layout depth x.items)

abbrev pub inline_interface_layout : ℕ → InlineInterface → List Piece
inline_interface_layout depth x = token (codes "interface") ∷ body interface_item_layout depth x.items

abbrev named : List ℕ → Ident
named text = record { string = text; span = nowhere }

-- no items: two blanks between the braces
use_1 : text [] true (use_layout 0 (record { docs = []; path = tree.UsePath.ident (named (codes "i")); items = [] })) ≡ codes "use i.{  };"
unfolding joined docs_layout
use_1 = refl

use_2 : text [] true (use_layout 0 (record { docs = []; path = tree.UsePath.ident (named (codes "i")); items = record { id = named (codes "a"); as_id = Some (named (codes "b")) } ∷ record { id = named (codes "c"); as_id = None } ∷ [] })) ≡ codes "use i.{ a as b, c };"
unfolding joined docs_layout
use_2 = refl
