-- What a text is, said of its bytes.
use Rattle.std.specs.Prelude.{◌≡◌, ℕ, List, codes}
use Rattle.wac_ast_grammar.specs.Tree.{Document}
use Rattle.wac_ast_grammar.specs.TextTree.{IsTreeOf}
use Rattle.wac_printer_layout.specs.Reread.{printed}

-- the text is a document: it has a tree
abbrev pub IsDocument : List ℕ → Type 0
IsDocument text = (tree : Document) × IsTreeOf text tree

-- the text is a document, and it is what is printed of its tree, with four spaces for each depth
abbrev pub IsFormatted : List ℕ → Type 0
IsFormatted text = (tree : Document) × IsTreeOf text tree × (text ≡ printed (codes "    ") text tree)
