-- What the laws say of pieces, of documents, and of what is printed of the trees of texts.
use Rattle.std.specs.Prelude.{◌≡◌, ◌↔◌, ◌++◌, ℕ, Bool, List, map}
use Rattle.std.specs.Str.{IsUtf8}
use Rattle.wac_lexer.specs.Items.{items}
use Rattle.wac_ast_grammar.specs.Spelled.{DocumentSpelled}
use Rattle.wac_ast_grammar.specs.TextTree.{IsTreeOf}
use Rattle.wac_ast_grammar.specs.Tree.{Document, Statement}
use Rattle.wac_ast_grammar.specs.Walk.{walk_statement}
use Rattle.wac_printer_layout.specs.Accepted.{IsAccepted}
use Rattle.wac_printer_layout.specs.Bare.{Keep, doc_lines, bare_document}
use Rattle.wac_printer_layout.specs.Joins.{AreBlanks, Joins, JoinsBefore}
use Rattle.wac_printer_layout.specs.Placed.{placed, said, said_of}
use Rattle.wac_printer_layout.specs.PlainTree.{plain_document}
use Rattle.wac_printer_layout.specs.Printed.{Piece, text, fresh_after, fresh_after_token}
use Rattle.wac_printer_layout.specs.Reread.{IsFixed, IsReread, printed, ReadsBack, RereadAs, WasPrinted}
use Rattle.wac_printer_layout.specs.StatementLayout.{document_layout, statement_layout}
use Rattle.wac_printer_layout.specs.Texts.{DocumentHas, Spelled, DocsHave, has}
use Rattle.wac_printer_layout.specs.TreeLines.{bare_tree, settled, tree_docs, tree_lines}

-- ---- pieces

-- pieces that join before the rest write a text without rejected characters
abbrev pub WriteAccepted : List ℕ → List ℕ → Bool → List Piece → Type 0
WriteAccepted rest space fresh ps = AreBlanks space → JoinsBefore rest space fresh ps → IsAccepted (text space fresh ps)

-- the items of what pieces that join write are the token pieces at their places
abbrev pub ReadAsPlaced : List ℕ → Bool → List Piece → Type 0
ReadAsPlaced space fresh ps =
    AreBlanks space → Joins space fresh ps → items (text space fresh ps) ≡ placed 0 space fresh ps

-- the items of pieces say what the pieces are meant to say
abbrev pub PlacedSay : ℕ → List ℕ → Bool → List Piece → Type 0
PlacedSay place space fresh ps = map said_of (placed place space fresh ps) ≡ said ps

-- two lists of pieces write what the first writes, and then what the second writes after it
abbrev pub WriteBoth : List ℕ → Bool → List Piece → List Piece → Type 0
WriteBoth space fresh ps qs =
    text space fresh (ps ++ qs) ≡ text space fresh ps ++ text space (fresh_after_token space fresh ps) qs

-- whether nothing is on the line after pieces is seen from the text that they write
abbrev pub FreshAsWritten : List ℕ → Bool → List Piece → Type 0
FreshAsWritten space fresh ps = fresh_after_token space fresh ps ≡ fresh_after fresh (text space fresh ps)

-- two lists of pieces join before the rest where the first joins before what the second writes, and the second joins
abbrev pub JoinBoth : List ℕ → List ℕ → Bool → List Piece → List Piece → Type 0
JoinBoth rest space fresh ps qs =
    let later = fresh_after_token space fresh ps in
    JoinsBefore rest space fresh (ps ++ qs)
    ↔ (JoinsBefore (text space later qs ++ rest) space fresh ps × JoinsBefore rest space later qs)

-- ---- documents

-- the pieces of each document join, where each of its texts is spelled as its sort
abbrev pub DocumentsJoin : List ℕ → Bool → Type 0
DocumentsJoin space fresh =
    (depth : ℕ) (document : Document) → DocumentHas Spelled document
    → Joins space fresh (document_layout depth document)

-- the pieces of each statement join before the rest, where each of its texts is spelled as its sort
abbrev pub StatementsJoin : List ℕ → List ℕ → Bool → Type 0
StatementsJoin rest space fresh =
    (depth : ℕ) (statement : Statement) → walk_statement (has Spelled) (DocsHave Spelled) statement
    → JoinsBefore rest space fresh (statement_layout depth statement)

-- ---- what is printed of trees

-- the tree of a source can be printed: each of its texts, its docs cut into lines, is spelled as its sort
abbrev pub IsPrintable : List ℕ → Document → Type 0
IsPrintable source tree = DocumentHas Spelled (bare_document doc_lines source tree)

-- what is printed of a tree that can be printed, with blanks for each depth, is read back as that tree
abbrev pub PrintableIsReread : List ℕ → List ℕ → Document → Type 0
PrintableIsReread space source tree =
    AreBlanks space → IsPrintable source tree → RereadAs (printed space source tree) source tree

-- what is printed of the tree of a text, with blanks for each depth, is UTF-8 and is read back as that tree
abbrev pub TreeIsReread : List ℕ → List ℕ → Document → Type 0
TreeIsReread space source tree =
    AreBlanks space → IsUtf8 source → IsTreeOf source tree
    → IsUtf8 (printed space source tree) × RereadAs (printed space source tree) source tree

-- what is printed of the tree of a text, with blanks for each depth, reads back, and is fixed from the second time on
abbrev pub PrintReadsBack : List ℕ → List ℕ → Document → Type 0
PrintReadsBack space source tree =
    AreBlanks space → IsUtf8 source → IsTreeOf source tree → ReadsBack space source tree (printed space source tree)

-- where a tree of a text is reread once, and that one again, both are printed as the same text
abbrev pub RereadsPrintAlike : List ℕ → List ℕ → Type 0
RereadsPrintAlike space source =
    (once twice : List ℕ) (tree again third : Document) → IsUtf8 source → IsTreeOf source tree
    → IsReread once again source tree → IsReread twice third once again
    → printed space twice third ≡ printed space once again

-- what is printed of a text that was itself printed has a tree that is printed as the same text
abbrev pub PrintStays : List ℕ → List ℕ → Document → Type 0
PrintStays space source tree =
    AreBlanks space → IsTreeOf source tree → WasPrinted source → IsFixed space (printed space source tree)

-- what is printed of the tree of a text is UTF-8, where what is written for each depth is
abbrev pub PrintIsUtf8 : List ℕ → List ℕ → Document → Type 0
PrintIsUtf8 space source tree =
    IsUtf8 space → IsUtf8 source → IsTreeOf source tree → IsUtf8 (printed space source tree)

-- ---- bare trees, plain trees and lines of docs

-- documents with equal bare trees have equal plain trees, whatever is kept of their docs
abbrev pub BareGivesPlain : Keep → Keep → List ℕ → List ℕ → Type 0
BareGivesPlain keep other source text =
    (x y : Document) → DocumentSpelled source x → DocumentSpelled text y
    → bare_document keep source x ≡ bare_document other text y → plain_document x ≡ plain_document y

-- the tree of a text that rereads another text's tree has the same plain tree
abbrev pub RereadIsPlain : List ℕ → List ℕ → Document → Document → Type 0
RereadIsPlain source text x again =
    IsUtf8 source → IsTreeOf source x → IsUtf8 text → IsTreeOf text again → IsReread text again source x
    → plain_document again ≡ plain_document x

-- trees with the same bare tree and the same lines of docs are printed as the same text
abbrev pub LinesGiveText : List ℕ → List ℕ → List ℕ → Document → Document → Type 0
LinesGiveText space source other x y =
    bare_tree source x ≡ bare_tree other y → tree_lines x ≡ tree_lines y
    → printed space source x ≡ printed space other y

-- a tree of a text is another one reread where it has the same bare tree, and its docs are the other's lines
abbrev pub RereadByLines : List ℕ → List ℕ → Document → Document → Type 0
RereadByLines text source again tree =
    IsReread text again source tree
    ↔ ((bare_tree text again ≡ bare_tree source tree) × (tree_docs again ≡ tree_lines tree))

-- printed twice, with blanks for each depth, the tree of a text has the same bare tree, and its lines that aren't empty
abbrev pub LinesSettle : List ℕ → List ℕ → Document → Document → Document → Type 0
LinesSettle space source tree again third =
    let once = printed space source tree in
    let twice = printed space once again in
    AreBlanks space → IsUtf8 source → IsTreeOf source tree → IsTreeOf once again → IsTreeOf twice third
    → (bare_tree twice third ≡ bare_tree source tree) × (tree_docs third ≡ settled (tree_lines tree))
