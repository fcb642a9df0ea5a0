-- The trees of interfaces, worlds and imports.
use Rattle.std.specs.Prelude.{map}
use Rattle.std.specs.Option.{option_map}
use Rattle.wac_ast_grammar.specs.Tree as tree
use Rattle.wac_ast_base.specs.Names.{doc_comment_of, ident_of, package_path_of, extern_name_of}
use Rattle.wac_ast_uses.specs.Uses.{use_of, world_include_of}
use Rattle.wac_ast_types.specs.Declarations.{func_type_of, func_type_ref_of, item_type_decl_of}
use Rattle.wac_ast_worlds.specs.declared.import.ImportStatement.{ImportStatement}
use Rattle.wac_ast_worlds.specs.declared.import.ImportType.{ImportType}
use Rattle.wac_ast_worlds.specs.declared.import.ImportType.TheVariants as import_types
use Rattle.wac_ast_worlds.specs.declared.interface.InlineInterface.{InlineInterface}
use Rattle.wac_ast_worlds.specs.declared.interface.InterfaceDecl.{InterfaceDecl}
use Rattle.wac_ast_worlds.specs.declared.interface.InterfaceExport.{InterfaceExport}
use Rattle.wac_ast_worlds.specs.declared.interface.InterfaceItem.{InterfaceItem}
use Rattle.wac_ast_worlds.specs.declared.interface.InterfaceItem.TheVariants as interface_items
use Rattle.wac_ast_worlds.specs.declared.world.ExternType.{ExternType}
use Rattle.wac_ast_worlds.specs.declared.world.ExternType.TheVariants as extern_types
use Rattle.wac_ast_worlds.specs.declared.world.NamedWorldItem.{NamedWorldItem}
use Rattle.wac_ast_worlds.specs.declared.world.WorldDecl.{WorldDecl}
use Rattle.wac_ast_worlds.specs.declared.world.WorldExport.{WorldExport}
use Rattle.wac_ast_worlds.specs.declared.world.WorldImport.{WorldImport}
use Rattle.wac_ast_worlds.specs.declared.world.WorldItem.{WorldItem}
use Rattle.wac_ast_worlds.specs.declared.world.WorldItem.TheVariants as world_items
use Rattle.wac_ast_worlds.specs.declared.world.WorldItemPath.{WorldItemPath}
use Rattle.wac_ast_worlds.specs.declared.world.WorldItemPath.TheVariants as world_item_paths

-- ---- interfaces

abbrev pub interface_export_of : InterfaceExport → tree.InterfaceExport
interface_export_of x = record { docs = map doc_comment_of x.docs.items; id = ident_of x.id; ty = func_type_ref_of x.ty }

abbrev pub interface_item_of : InterfaceItem → tree.InterfaceItem
interface_item_of (interface_items.Use x) = tree.InterfaceItem.use_statement (use_of x.value)
interface_item_of (interface_items.Export x) = tree.InterfaceItem.interface_export (interface_export_of x)
interface_item_of (interface_items.Ty x) = tree.InterfaceItem.ty (item_type_decl_of x)

abbrev pub interface_decl_of : InterfaceDecl → tree.InterfaceDecl
interface_decl_of x = record { docs = map doc_comment_of x.docs.items; id = ident_of x.id; items = map interface_item_of x.items.items }

abbrev pub inline_interface_of : InlineInterface → tree.InlineInterface
inline_interface_of x = record { items = map interface_item_of x.items.items }

-- ---- worlds

abbrev pub extern_type_of : ExternType → tree.ExternType
extern_type_of (extern_types.Ident x) = tree.ExternType.ident (ident_of x)
extern_type_of (extern_types.Func x) = tree.ExternType.func (func_type_of x)
extern_type_of (extern_types.Interface x) = tree.ExternType.interface (inline_interface_of x)

abbrev pub named_world_item_of : NamedWorldItem → tree.NamedWorldItem
named_world_item_of x = record { id = ident_of x.id; ty = extern_type_of x.ty }

abbrev pub world_item_path_of : WorldItemPath → tree.WorldItemPath
world_item_path_of (world_item_paths.Package x) = tree.WorldItemPath.path (package_path_of x)
world_item_path_of (world_item_paths.Named x) = tree.WorldItemPath.named (named_world_item_of x)
world_item_path_of (world_item_paths.Ident x) = tree.WorldItemPath.ident (ident_of x)

abbrev pub world_import_of : WorldImport → tree.WorldImport
world_import_of x = record { docs = map doc_comment_of x.docs.items; path = world_item_path_of x.path }

abbrev pub world_export_of : WorldExport → tree.WorldExport
world_export_of x = record { docs = map doc_comment_of x.docs.items; path = world_item_path_of x.path }

abbrev pub world_item_of : WorldItem → tree.WorldItem
world_item_of (world_items.Use x) = tree.WorldItem.use_statement (use_of x)
world_item_of (world_items.Import x) = tree.WorldItem.world_import (world_import_of x)
world_item_of (world_items.Export x) = tree.WorldItem.world_export (world_export_of x)
world_item_of (world_items.Include x) = tree.WorldItem.world_include (world_include_of x)
world_item_of (world_items.Ty x) = tree.WorldItem.ty (item_type_decl_of x)

abbrev pub world_decl_of : WorldDecl → tree.WorldDecl
world_decl_of x = record { docs = map doc_comment_of x.docs.items; id = ident_of x.id; items = map world_item_of x.items.items }

-- ---- imports

abbrev pub import_type_of : ImportType → tree.ImportType
import_type_of (import_types.Package x) = tree.ImportType.path (package_path_of x)
import_type_of (import_types.Func x) = tree.ImportType.func (func_type_of x)
import_type_of (import_types.Interface x) = tree.ImportType.interface (inline_interface_of x)
import_type_of (import_types.Ident x) = tree.ImportType.ident (ident_of x)

abbrev pub import_statement_of : ImportStatement → tree.ImportStatement
import_statement_of x = record { docs = map doc_comment_of x.docs.items; id = ident_of x.id; name = option_map extern_name_of x.name; ty = import_type_of x.ty }
