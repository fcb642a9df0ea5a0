-- What a parser took.
use Rattle.std.specs.Prelude.{◌≡◌, List, ◌++◌}
use Rattle.wac_lexer.specs.Item.{Item}
use Rattle.wac_ast_grammar.specs.Grammar.{Sym, TreeOf, Derives}

-- The items that were left before and are not now derive the tree.
abbrev pub Consumed : (s : Sym) → List Item → List Item → TreeOf s → Type 0
Consumed s old new tree = (front : List Item) × (old ≡ front ++ new) × Derives s front tree
