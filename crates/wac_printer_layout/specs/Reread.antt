-- The tree of the text that is printed of a tree.
use Rattle.std.specs.Prelude.{◌≡◌, ℕ, List, map, true}
use Rattle.std.specs.Str.{IsUtf8}
use Rattle.wac_lexer.specs.Items.{items}
use Rattle.wac_ast_grammar.specs.Tree.{Document}
use Rattle.wac_ast_grammar.specs.TextTree.{IsTreeOf}
use Rattle.wac_printer_layout.specs.Printed.{text}
use Rattle.wac_printer_layout.specs.Bare.{nowhere, Keep, doc_lines, bare_document}
use Rattle.wac_printer_layout.specs.Joins.{AreBlanks}
use Rattle.wac_printer_layout.specs.Placed.{placed}
use Rattle.wac_printer_layout.specs.Settled.{settle_document}
use Rattle.wac_printer_layout.specs.StatementLayout.{document_layout}

-- docs as they are read, without their spans
abbrev pub read_docs : Keep
read_docs docs = map (λ d. record { comment = d.comment; span = nowhere }) docs

-- what is printed of a document of a source
abbrev pub printed : List ℕ → List ℕ → Document → List ℕ
printed space source tree = text space true (document_layout 0 (bare_document doc_lines source tree))

-- a tree of a text has the bare tree of another one's source, and its docs are the lines of the other's, one doc a line
abbrev pub IsReread : List ℕ → Document → List ℕ → Document → Type 0
IsReread text again source tree = bare_document read_docs text again ≡ bare_document doc_lines source tree

-- the text has such a tree
abbrev pub RereadAs : List ℕ → List ℕ → Document → Type 0
RereadAs text source tree = (again : Document) × IsTreeOf text again × IsReread text again source tree

-- a text that was printed of the tree of a text, with blanks for each depth
pub record WasPrinted (text : List ℕ) : Type 0 where
  pub space : List ℕ
  pub source : List ℕ
  pub tree : Document
  pub blanks : AreBlanks space
  pub utf8 : IsUtf8 source
  pub is : IsTreeOf source tree
  pub was : text ≡ printed space source tree

-- the text has a tree that is printed as the text
abbrev pub IsFixed : List ℕ → List ℕ → Type 0
IsFixed space text = (tree : Document) × IsTreeOf text tree × (printed space text tree ≡ text)

-- A text, printed of the tree of a source, reads back. Its items are the tokens of the layout, in order, at their places. It has a tree
-- with the same bare tree, whose docs are the lines of the first one's docs, one doc a line. What is printed of that one has a tree too, whose
-- docs are settled, and what is printed of that is the same text again.
pub record ReadsBack (space source : List ℕ) (tree : Document) (text : List ℕ) : Type 0 where
  pub utf8 : IsUtf8 text
  pub items_are : items text ≡ placed 0 space true (document_layout 0 (bare_document doc_lines source tree))
  pub reread : RereadAs text source tree
  pub twice : (again : Document) → IsTreeOf text again → RereadAs (printed space text again) text again
  pub settled : (again third : Document) → IsTreeOf text again → IsTreeOf (printed space text again) third → bare_document read_docs (printed space text again) third ≡ settle_document (bare_document doc_lines source tree)
  pub fixed : (again third : Document) → IsTreeOf text again → IsTreeOf (printed space text again) third → printed space (printed space text again) third ≡ printed space text again
