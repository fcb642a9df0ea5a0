-- What is promised of the text that is printed of a document.
use Rattle.std.specs.Prelude.{◌≡◌, ℕ, Bool, true, List, ◌++◌, Result, Ok, Err}
use Rattle.std.specs.Str.{IsUtf8}
use Rattle.wac_ast_grammar.specs.Tree.{Document}
use Rattle.wac_ast_grammar.specs.TextTree.{IsTreeOf}
use Rattle.wac_printer_layout.specs.Bare.{bare_document, doc_lines}
use Rattle.wac_printer_layout.specs.Joins.{AreBlanks}
use Rattle.wac_printer_layout.specs.Printed.{text}
use Rattle.wac_printer_layout.specs.Reread.{printed, ReadsBack}
use Rattle.wac_printer_layout.specs.StatementLayout.{document_layout}
use Rattle.wac_printer_pieces.specs.Printed.{Printer}
use Rattle.wac_printer_pieces.specs.declared.error.PrintError.{PrintError}
use Rattle.wac_printer.specs.Forms.{PrintResult}
use Rattle.wac_printer.specs.Nodes.{PrintsDocument}

-- What a call wrote reads back: where it succeeded, in a new printer whose space consists of blanks, TAB, CR and LF, and the document is
-- the tree of the source.
abbrev pub WhatIsRead : {A : Type 0} → Printer → Result A PrintError → Printer → Document → Type 0
WhatIsRead old (Err e) new tree = Unit {0}
WhatIsRead old (Ok _) new tree =
    old.depth ≡ 0 → old.fresh ≡ true → AreBlanks old.space → IsUtf8 old.source → IsTreeOf old.source tree
    → (new.bytes ≡ old.bytes ++ printed old.space old.source tree) × ReadsBack old.space old.source tree (printed old.space old.source tree)

pub record IsReadBack {A : Type 0} (old : Printer) (result : Result A PrintError) (new : Printer) (tree : Document) : Type 0 where
  pub is : WhatIsRead old result new tree

-- What is written of a document reads back.
abbrev pub WhatIsPrintedReadsBack : Type 0
WhatIsPrintedReadsBack =
    (old new : Printer) (result : PrintResult) (tree : Document)
    → PrintsDocument old result new tree → IsReadBack old result new tree

-- what is written of a document of a source
abbrev pub document_text : List ℕ → Bool → ℕ → List ℕ → Document → List ℕ
document_text space fresh depth source tree =
    text space fresh (document_layout depth (bare_document doc_lines source tree))

-- Documents that are equal when they are bare print equally.
abbrev pub EqualBareTreesPrintEqually : Type 0
EqualBareTreesPrintEqually =
    (s t : List ℕ) (x y : Document) (space : List ℕ) (depth : ℕ) (fresh : Bool)
    → bare_document doc_lines s x ≡ bare_document doc_lines t y
    → document_text space fresh depth s x ≡ document_text space fresh depth t y
