-- The tree of a text.
use Rattle.std.specs.Prelude.{◌≡◌, ℕ, List, None}
use Rattle.wac_lexer.specs.Items.{items}
use Rattle.wac_lexer.specs.Characters.{refused}
use Rattle.wac_ast_grammar.specs.Tree.{Document}
use Rattle.wac_ast_grammar.specs.Grammar.{document, Derives}
use Rattle.wac_ast_grammar.specs.Slices.{DocumentSlices}
use Rattle.wac_ast_grammar.specs.Spelled.{DocumentSpelled}

-- No character is rejected, and the items derive the tree.
pub record IsTreeOf (text : List ℕ) (tree : Document) : Type 0 where
  pub clean : refused text ≡ None
  pub derives : Derives document (items text) tree

-- All spans of the tree slice the text, and its names, strings and paths are read there.
abbrev pub StandsIn : List ℕ → Document → Type 0
StandsIn text tree = DocumentSlices text tree × DocumentSpelled text tree
