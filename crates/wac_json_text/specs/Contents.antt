-- What the parts of the writer put: forms without what they begin and end with, and the contents of variants.
use Rattle.std.specs.Prelude.{ℕ, List, [], ◌∷◌, ◌++◌, codes, decimal, map}
use Rattle.json.specs.Print.{escape}
use Rattle.serde_json.specs.Data.{Data}
use Rattle.wac_lexer.specs.Span.{Span}
use Rattle.wac_ast_grammar.specs.Tree as tree
use Rattle.wac_ast_grammar.specs.Tree.{types_from}
use Rattle.wac_ast_statements.specs.Expressions.{argument_of}
use Rattle.wac_ast_statements.specs.declared.expr.InstantiationArgument.{InstantiationArgument}
use Rattle.wac_ast_worlds.specs.Worlds.{world_item_of}
use Rattle.wac_ast_worlds.specs.declared.world.WorldItem.{WorldItem}
use Rattle.wac_ast.specs.Statements.{document_of}
use Rattle.wac_ast.specs.declared.document.Document.{Document}
use Rattle.wac_printer_layout.specs.Printed.{Piece, blank}
use Rattle.wac_json_forms.specs.Forms.{argument_json, argument_name_json, expr_json, json_text, list_json, object_of, optional_ty_json, span_json, ty_json, variant, world_item_json}
use Rattle.wac_json_text.specs.Pieces.{pieces}

-- ---- forms without what they begin and end with

-- a place, between `{"length":` and `}`
abbrev pub span_inside : Span → List Piece
span_inside s = blank (decimal s.len) ∷ blank (codes ",\"offset\":") ∷ blank (decimal s.offset) ∷ []

-- an identifier, between `{"span":{"length":` and `"}`
abbrev pub ident_inside : tree.Ident → List Piece
ident_inside x = span_inside x.span ++ blank (codes "},\"string\":\"") ∷ blank (escape x.string) ∷ []

-- a string, between the same
abbrev pub string_inside : tree.String → List Piece
string_inside x = span_inside x.span ++ blank (codes "},\"value\":\"") ∷ blank (escape x.value) ∷ []

-- ---- variants

-- a variant with content: `opening` is its brace, its name and the colon
abbrev pub variant_pieces : List ℕ → Data → List Piece
variant_pieces opening content = blank opening ∷ (pieces content ++ blank (codes "}") ∷ [])

-- a type that is a keyword: `opening` goes up to the length of its place
abbrev pub keyword_pieces : List ℕ → Span → List Piece
keyword_pieces opening s = blank opening ∷ (span_inside s ++ blank (codes "}}") ∷ [])

-- a type that holds one, and its place: `opening` goes up to what it holds
abbrev pub held_pieces : List ℕ → Data → Span → List Piece
held_pieces opening held s =
    blank opening ∷ (pieces held ++ blank (codes ",{\"length\":") ∷ (span_inside s ++ blank (codes "}]}") ∷ []))

-- a type that may hold one
abbrev pub perhaps_held_pieces : List ℕ → tree.OptionalTy → Span → List Piece
perhaps_held_pieces opening held s = held_pieces opening (optional_ty_json held) s

-- the parts of a result, in the order in which they are put: failure, success, place
abbrev pub failure_pieces : Data → List Piece
failure_pieces err = blank (codes "{\"result\":{\"err\":") ∷ pieces err

abbrev pub success_pieces : Data → List Piece
success_pieces ok = blank (codes ",\"ok\":") ∷ pieces ok

abbrev pub result_end_pieces : Span → List Piece
result_end_pieces s = blank (codes ",\"span\":{\"length\":") ∷ (span_inside s ++ blank (codes "}}}") ∷ [])

-- a tuple, and its place
abbrev pub tuple_json : List tree.Ty → Span → Data
tuple_json types s = ty_json (tree.Ty.tuple (types_from types) s)

-- an expression in parentheses, and its place
abbrev pub nested_json : tree.Expr → Span → Data
nested_json inner s =
    variant (codes "nested") (object_of ((codes "inner", expr_json inner) ∷ (codes "span", span_json s) ∷ []))

-- an argument of an instantiation
abbrev pub argument_pieces : InstantiationArgument → List Piece
argument_pieces x = pieces (argument_json (argument_of x))

-- a named argument: what it is given, and its name
abbrev pub named_json : tree.Expr → tree.InstantiationArgumentName → Data
named_json value name =
    variant (codes "named")
    (object_of ((codes "expr", expr_json value) ∷ (codes "name", argument_name_json name) ∷ []))

-- ---- worlds and documents

-- the items of a world, in a list
abbrev pub world_items_pieces : List WorldItem → List Piece
world_items_pieces items = pieces (list_json world_item_json (map world_item_of items))

-- the text of a page: its document's form
abbrev pub page_text : Document → List ℕ
page_text page = json_text (document_of page)
