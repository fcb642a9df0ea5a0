-- What calls print of the trees whose names are too long for a clause to say it: the form, the layout and the walk.
use Rattle.std.specs.Prelude.{ℕ, List, Option, map}
use Rattle.std.specs.List.{flat_map}
use Rattle.wac_lexer.specs.Item.{Doc}
use Rattle.wac_ast_grammar.specs.Tree.{Constructor, Document, ExportOptions, ExportStatement, ExternName, FuncTypeRef, Ident, ImportStatement, InlineInterface, InstantiationArgument, InstantiationArgumentName, InterfaceDecl, InterfaceExport, InterfaceItem, ItemTypeDecl, LetStatement, NamedAccessExpr, NamedWorldItem, PackageDirective, PackagePath, PostfixExpr, ResourceDecl, ResourceMethod, Statement, TypeAliasKind, TypeStatement, WorldExport, WorldImport, WorldInclude, WorldIncludeItem, WorldItem, WorldItemPath}
use Rattle.wac_ast_grammar.specs.Walk.{walk_constructor, walk_export_options, walk_export_statement, walk_extern_name, walk_func_type_ref, walk_import_statement, walk_inline_interface, walk_instantiation_argument, walk_instantiation_argument_name, walk_interface_decl, walk_interface_export, walk_interface_item, walk_item_type_decl, walk_let_statement, walk_named_access_expr, walk_named_world_item, walk_package_directive, walk_postfix_expr, walk_resource_decl, walk_resource_method, walk_statement, walk_type_alias_kind, walk_type_statement, walk_world_export, walk_world_import, walk_world_include, walk_world_include_item, walk_world_item, walk_world_item_path}
use Rattle.wac_printer_layout.specs.Bare.{bare, bare_document, bare_ident, doc_lines}
use Rattle.wac_printer_layout.specs.Parts.{docs_layout, spaced}
use Rattle.wac_printer_layout.specs.DeclarationLayout.{alias_kind_layout, constructor_layout, head_layout, item_type_decl_layout, resource_decl_layout, resource_method_layout}
use Rattle.wac_printer_layout.specs.ExpressionLayout.{argument_layout, argument_name_layout, named_access_expr_layout, postfix_expr_layout}
use Rattle.wac_printer_layout.specs.InterfaceLayout.{inline_interface_layout, interface_decl_layout, interface_export_layout, interface_item_layout}
use Rattle.wac_printer_layout.specs.StatementLayout.{directive_layout, document_layout, export_options_layout, export_statement_layout, import_name_layout, import_statement_layout, let_statement_layout, statement_layout, targets_layout, type_statement_layout}
use Rattle.wac_printer_layout.specs.TypeLayout.{func_type_ref_layout}
use Rattle.wac_printer_layout.specs.WorldLayout.{named_world_item_layout, world_export_layout, world_import_layout, world_include_item_layout, world_include_layout, world_item_layout, world_item_path_layout}
use Rattle.wac_printer_pieces.specs.Printed.{Printer, Prints}
use Rattle.wac_printer.specs.Forms.{LayoutAt, PrintResult, Printing, PrintsAt, PrintsBare, PrintsBody, PrintsEach, PrintsOption, PrintsTree, walk_path}

-- ---- names and docs

-- a keyword and an identifier on a line
abbrev pub PrintsHead : Printer → PrintResult → Printer → List ℕ → Ident → Type 0
PrintsHead old result new keyword id =
    Prints old result new (head_layout old.depth keyword (bare_ident old.source id))

-- each line of docs on a line of its own
abbrev pub PrintsDocs : Printing (List Doc)
PrintsDocs old result new docs = Prints old result new (docs_layout old.depth (doc_lines docs))

-- ---- types

abbrev pub PrintsTypeAliasKind : Printing TypeAliasKind
PrintsTypeAliasKind old result new tree = PrintsBare old result new alias_kind_layout walk_type_alias_kind tree

abbrev pub PrintsConstructor : Printing Constructor
PrintsConstructor old result new tree = PrintsTree old result new constructor_layout walk_constructor tree

abbrev pub PrintsResourceMethod : Printing ResourceMethod
PrintsResourceMethod old result new tree = PrintsTree old result new resource_method_layout walk_resource_method tree

abbrev pub PrintsResourceMethods : Printing (List ResourceMethod)
PrintsResourceMethods old result new trees = PrintsBody old result new resource_method_layout walk_resource_method trees

abbrev pub PrintsResourceDecl : Printing ResourceDecl
PrintsResourceDecl old result new tree = PrintsTree old result new resource_decl_layout walk_resource_decl tree

abbrev pub PrintsItemTypeDecl : Printing ItemTypeDecl
PrintsItemTypeDecl old result new tree = PrintsTree old result new item_type_decl_layout walk_item_type_decl tree

abbrev pub PrintsFuncTypeRef : Printing FuncTypeRef
PrintsFuncTypeRef old result new tree = PrintsBare old result new func_type_ref_layout walk_func_type_ref tree

-- ---- interfaces

abbrev pub PrintsInterfaceExport : Printing InterfaceExport
PrintsInterfaceExport old result new tree = PrintsTree old result new interface_export_layout walk_interface_export tree

abbrev pub PrintsInterfaceItem : Printing InterfaceItem
PrintsInterfaceItem old result new tree = PrintsTree old result new interface_item_layout walk_interface_item tree

abbrev pub PrintsInterfaceItems : Printing (List InterfaceItem)
PrintsInterfaceItems old result new trees = PrintsBody old result new interface_item_layout walk_interface_item trees

abbrev pub PrintsInterfaceDecl : Printing InterfaceDecl
PrintsInterfaceDecl old result new tree = PrintsTree old result new interface_decl_layout walk_interface_decl tree

abbrev pub PrintsInlineInterface : Printing InlineInterface
PrintsInlineInterface old result new tree = PrintsTree old result new inline_interface_layout walk_inline_interface tree

-- ---- worlds

abbrev pub PrintsNamedWorldItem : Printing NamedWorldItem
PrintsNamedWorldItem old result new tree = PrintsTree old result new named_world_item_layout walk_named_world_item tree

abbrev pub PrintsWorldItemPath : Printing WorldItemPath
PrintsWorldItemPath old result new tree = PrintsTree old result new world_item_path_layout walk_world_item_path tree

abbrev pub PrintsWorldImport : Printing WorldImport
PrintsWorldImport old result new tree = PrintsTree old result new world_import_layout walk_world_import tree

abbrev pub PrintsWorldExport : Printing WorldExport
PrintsWorldExport old result new tree = PrintsTree old result new world_export_layout walk_world_export tree

abbrev pub PrintsWorldIncludeItem : Printing WorldIncludeItem
PrintsWorldIncludeItem old result new tree =
    PrintsAt old result new world_include_item_layout walk_world_include_item tree

abbrev pub PrintsWorldInclude : Printing WorldInclude
PrintsWorldInclude old result new tree = PrintsTree old result new world_include_layout walk_world_include tree

-- the names that change in an include
abbrev pub PrintsRenamings :
    Printer → PrintResult → Printer → LayoutAt (List WorldIncludeItem) → List WorldIncludeItem → Type 0
PrintsRenamings old result new layout items =
    Prints old result new (layout old.depth (map (walk_world_include_item (bare old.source)) items))

abbrev pub PrintsWorldItems : Printing (List WorldItem)
PrintsWorldItems old result new trees = PrintsBody old result new world_item_layout walk_world_item trees

-- ---- expressions

abbrev pub PrintsNamedAccessExpr : Printing NamedAccessExpr
PrintsNamedAccessExpr old result new tree =
    PrintsBare old result new named_access_expr_layout walk_named_access_expr tree

abbrev pub PrintsPostfixExpr : Printing PostfixExpr
PrintsPostfixExpr old result new tree = PrintsBare old result new postfix_expr_layout walk_postfix_expr tree

abbrev pub PrintsPostfixes : Printing (List PostfixExpr)
PrintsPostfixes old result new trees = PrintsEach old result new (flat_map postfix_expr_layout) walk_postfix_expr trees

abbrev pub PrintsInstantiationArgumentName : Printing InstantiationArgumentName
PrintsInstantiationArgumentName old result new tree =
    PrintsBare old result new argument_name_layout walk_instantiation_argument_name tree

abbrev pub PrintsInstantiationArgument : Printing InstantiationArgument
PrintsInstantiationArgument old result new tree =
    PrintsAt old result new argument_layout walk_instantiation_argument tree

-- ---- statements

abbrev pub PrintsPackageDirective : Printing PackageDirective
PrintsPackageDirective old result new tree = PrintsAt old result new directive_layout walk_package_directive tree

abbrev pub PrintsTargets : Printing (Option PackagePath)
PrintsTargets old result new tree = PrintsOption old result new targets_layout walk_path tree

abbrev pub PrintsTypeStatement : Printing TypeStatement
PrintsTypeStatement old result new tree = PrintsTree old result new type_statement_layout walk_type_statement tree

abbrev pub PrintsImportName : Printing (Option ExternName)
PrintsImportName old result new tree = PrintsOption old result new import_name_layout walk_extern_name tree

abbrev pub PrintsImportStatement : Printing ImportStatement
PrintsImportStatement old result new tree = PrintsTree old result new import_statement_layout walk_import_statement tree

abbrev pub PrintsLetStatement : Printing LetStatement
PrintsLetStatement old result new tree = PrintsTree old result new let_statement_layout walk_let_statement tree

abbrev pub PrintsExportOptions : Printing ExportOptions
PrintsExportOptions old result new tree = PrintsBare old result new export_options_layout walk_export_options tree

abbrev pub PrintsExportStatement : Printing ExportStatement
PrintsExportStatement old result new tree = PrintsTree old result new export_statement_layout walk_export_statement tree

-- statements, with an empty line between two
abbrev pub PrintsStatements : Printing (List Statement)
PrintsStatements old result new trees =
    Prints old result new (spaced (statement_layout old.depth) (map (walk_statement (bare old.source) doc_lines) trees))

-- a document
abbrev pub PrintsDocument : Printing Document
PrintsDocument old result new tree =
    Prints old result new (document_layout old.depth (bare_document doc_lines old.source tree))
