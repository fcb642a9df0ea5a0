-- Bare trees: without spans, with each name as the source spells it, and with docs as they are kept.
use Rattle.std.specs.Prelude.{◌≡◌, ℕ, List, [], map, codes, refl}
use Rattle.std.specs.List.{flat_map}
use Rattle.std.specs.Str.{trim}
use Rattle.std.specs.Str.Lines.{lines}
use Rattle.wac_lexer.specs.Span.{Span, span}
use Rattle.wac_lexer.specs.Item.{Doc}
use Rattle.wac_lexer.specs.Reading.{slice}
use Rattle.wac_ast_grammar.specs.Tree.{Document, Ident, PackageName, PackagePath, String}
use Rattle.wac_ast_grammar.specs.Walk.{Walk, walk_document}
use Rattle.wac_ast_grammar.specs.Leaves.{Change, changed}

-- the span of what lies nowhere
abbrev pub nowhere : Span
nowhere = span 0 0

-- what is kept of the docs of a place
abbrev pub Keep : Type 0
Keep = List Doc → List Doc

-- no docs
abbrev pub no_docs : Keep
no_docs docs = []

-- one line of docs
abbrev pub doc_line : List ℕ → Doc
doc_line text = record { comment = trim text; span = nowhere }

-- the lines of docs, trimmed, a doc for each: an empty doc has none
unfoldable pub doc_lines : Keep
doc_lines docs = flat_map (λ doc. map doc_line (lines doc.comment)) docs

-- ---- names

abbrev pub bare_ident : List ℕ → Ident → Ident
bare_ident source x = record { string = slice source x.span; span = nowhere }

abbrev pub bare_string : List ℕ → String → String
bare_string source x = record { value = slice source x.span; span = nowhere }

abbrev pub bare_package_name : List ℕ → PackageName → PackageName
bare_package_name source x = record { string = slice source x.span; name = x.name; version = x.version; span = nowhere }

abbrev pub bare_package_path : List ℕ → PackagePath → PackagePath
bare_package_path source x = record { span = nowhere; string = slice source x.span; name = x.name; segments = x.segments; version = x.version }

-- what becomes of the leaves of a tree
abbrev pub bare_leaves : List ℕ → Change
bare_leaves source =
    record {
      ident = bare_ident source;
      string = bare_string source;
      name = bare_package_name source;
      path = bare_package_path source;
      span = λ s. nowhere;
    }

-- the walk that makes a tree bare
abbrev pub bare : List ℕ → Walk {0}
bare source = changed (bare_leaves source)

-- a bare document
abbrev pub bare_document : Keep → List ℕ → Document → Document
bare_document keep source x = walk_document (bare source) keep x

-- `%x` keeps its percent sign
bare_1 : bare_ident (codes "use %x;") (record { string = codes "x"; span = span 4 2 }) ≡ record { string = codes "%x"; span = nowhere }
bare_1 = refl
