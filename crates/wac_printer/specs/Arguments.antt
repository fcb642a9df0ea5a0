-- Parts of the layout of an instantiation.
use Rattle.std.specs.Prelude.{ℕ, Bool, true, false, List, [], ◌∷◌, ◌++◌, codes, map}
use Rattle.std.specs.List.{flat_map}
use Rattle.wac_ast_grammar.specs.Tree as tree
use Rattle.wac_ast_grammar.specs.Tree.{Arguments, PackageName, InstantiationArgument, arguments_from}
use Rattle.wac_ast_grammar.specs.Walk.{walk_instantiation_argument}
use Rattle.wac_ast_statements.specs.Expressions.{argument_of}
use Rattle.wac_ast_statements.specs.declared.expr.InstantiationArgument.{InstantiationArgument as CodeArgument}
use Rattle.wac_printer_layout.specs.Bare.{bare}
use Rattle.wac_printer_layout.specs.Printed.{Piece, token, line, deeper}
use Rattle.wac_printer_layout.specs.Parts.{space, newline}
use Rattle.wac_printer_layout.specs.ExpressionLayout.{argument_layout, arguments_layout, braced_layout}
use Rattle.wac_printer_pieces.specs.Arguments.{ending_layout}
use Rattle.wac_printer_pieces.specs.Printed.{Printer}

-- `new S {`
abbrev pub new_head_layout : PackageName → List Piece
new_head_layout name = token (codes "new") ∷ space ∷ token name.string ∷ space ∷ token (codes "{") ∷ []

-- what is between the braces
abbrev pub braces_layout : ℕ → Arguments → List Piece
braces_layout depth arguments = braced_layout depth arguments (arguments_layout (deeper depth) arguments)

-- arguments one deeper than the printer
abbrev pub inner_arguments_layout : ℕ → Arguments → List Piece
inner_arguments_layout depth arguments = arguments_layout (deeper depth) arguments

-- the same between a newline and the beginning of a line
abbrev pub argument_lines_layout : ℕ → Arguments → List Piece
argument_lines_layout depth arguments = newline ∷ (inner_arguments_layout depth arguments ++ line depth ∷ [])

-- the tree of arguments
abbrev pub arguments_of : List CodeArgument → Arguments
arguments_of arguments = arguments_from (map argument_of arguments)

-- `...` alone
abbrev pub is_lone_fill : Arguments → Bool
is_lone_fill (tree.Arguments.more (tree.InstantiationArgument.fill s) tree.Arguments.none) = true
is_lone_fill _ = false

-- the line of an argument, which may be the last
abbrev pub argument_line_layout : ℕ → Bool → InstantiationArgument → List Piece
argument_line_layout depth is_last x = line depth ∷ (argument_layout depth x ++ ending_layout is_last x)

-- the same of a source's argument, which is made bare
abbrev pub bare_argument_line : Printer → Bool → InstantiationArgument → List Piece
bare_argument_line printer is_last x =
    argument_line_layout printer.depth is_last (walk_instantiation_argument (bare printer.source) x)

-- the lines of arguments none of which is the last
abbrev pub front_lines : Printer → List CodeArgument → List Piece
front_lines printer arguments = flat_map (λ x. bare_argument_line printer false (argument_of x)) arguments
