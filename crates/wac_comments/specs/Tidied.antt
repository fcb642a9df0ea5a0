-- What a tidied text keeps of its source.
use Rattle.std.specs.Prelude.{◌≡◌, refl, codes, Bool, false, ℕ, List}
use Rattle.wac_lexer.specs.Items.{items_from}
use Rattle.wac_ast_grammar.specs.Tree.{Document}
use Rattle.wac_ast_grammar.specs.TextTree.{IsTreeOf}
use Rattle.wac_printer_layout.specs.Bare.{bare_document, doc_lines}
use Rattle.wac_printer_layout.specs.Reread as reread
use Rattle.wac_printer_layout.specs.Reread.{RereadAs}
use Rattle.wac_comments_layout.specs.Pieces.{comments_at, texts}
use Rattle.wac_comments_layout.specs.Printing.{printed}
use Rattle.wac_comments_layout.specs.Plain.{ended}
use Rattle.wac_comments.specs.Comments.{has_comments}
use Rattle.wac_comments.specs.Options.{indent_text, line_end_text}
use Rattle.wac_comments.specs.declared.options.Options.{Options}

-- The text has the comments of the source, in order, each before the same printed token: its tokens and comments are those of the source
-- as they are printed.
abbrev pub Kept : List ℕ → List ℕ → Type 0
Kept source text = texts text ≡ printed (texts source)

-- The text has the same bare tree as the source, and the same lines of docs. What is formatted of a text depends on these alone.
abbrev pub SameTree : List ℕ → List ℕ → Type 0
SameTree source text = (tree : Document) × (again : Document) × IsTreeOf source tree × IsTreeOf text again × (bare_document doc_lines text again ≡ bare_document doc_lines source tree)

-- this is what a source is formatted to, where these blanks stand for a depth
abbrev pub IsFormatted : List ℕ → List ℕ → List ℕ → Type 0
IsFormatted space source formatted = (tree : Document) × IsTreeOf source tree × (formatted ≡ reread.printed space source tree)

-- this reads back as the tree of the source
abbrev pub ReadsBackAs : List ℕ → List ℕ → Type 0
ReadsBackAs source formatted = (tree : Document) × IsTreeOf source tree × RereadAs formatted source tree

-- Where the source has no comments, the text is what it is formatted to, with these line ends, of which one stands at the end.
abbrev pub IsPlainWith : List ℕ → List ℕ → List ℕ → List ℕ → Type 0
IsPlainWith space line_end source text =
    has_comments source ≡ false → (formatted : List ℕ) × IsFormatted space source formatted × (text ≡ ended line_end formatted)

-- the same with the texts of options
abbrev pub IsPlain : Options → List ℕ → List ℕ → Type 0
IsPlain options source text = IsPlainWith (indent_text options.indent) (line_end_text options.line_end) source text

-- where there are no comments, the text is the formatted one, with these line ends
abbrev pub IsEnded : Bool → List ℕ → List ℕ → List ℕ → Type 0
IsEnded commented line_end formatted text = commented ≡ false → text ≡ ended line_end formatted

-- example: a comment stays before its token, after a comma that is added
comma_is_added : Kept (codes "record r {a/*b*/}") (codes "record r {\n    a, /*b*/\n}")
unfolding comments_at items_from
comma_is_added = refl
