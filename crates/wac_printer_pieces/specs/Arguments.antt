-- What ends the line of an argument of an instantiation.
use Rattle.std.specs.Prelude.{Bool, true, List, [], ◌∷◌, codes}
use Rattle.wac_ast_grammar.specs.Tree as tree
use Rattle.wac_ast_grammar.specs.Tree.{InstantiationArgument}
use Rattle.wac_printer_layout.specs.Printed.{Piece, token}
use Rattle.wac_printer_layout.specs.Parts.{newline}

-- what ends the line of an argument: a comma, unless it is a fill and the last
abbrev pub ending_layout : Bool → InstantiationArgument → List Piece
ending_layout true (tree.InstantiationArgument.fill s) = newline ∷ []
ending_layout _ _ = token (codes ",") ∷ newline ∷ []
