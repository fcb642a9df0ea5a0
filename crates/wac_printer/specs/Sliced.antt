-- What printing asks for: the spans of what is printed slice the source.
use Rattle.std.specs.Prelude.{ℕ, List}
use Rattle.std.specs.List.{All}
use Rattle.wac_lexer.specs.Item.{Doc}
use Rattle.wac_lexer.specs.Reading.{Slices}
use Rattle.wac_ast_grammar.specs.Tree.{Ident, String, PackageName, PackagePath, Document}
use Rattle.wac_ast_grammar.specs.Walk.{Walk, walk_document}
use Rattle.wac_ast_grammar.specs.Leaves.{holds}

-- ---- names

unfoldable pub IdentSliced : List ℕ → Ident → Type 0
IdentSliced source x = Slices source x.span

unfoldable pub StringSliced : List ℕ → String → Type 0
StringSliced source x = Slices source x.span

unfoldable pub PackageNameSliced : List ℕ → PackageName → Type 0
PackageNameSliced source x = Slices source x.span

unfoldable pub PackagePathSliced : List ℕ → PackagePath → Type 0
PackagePathSliced source x = Slices source x.span

-- what is asked of a tree: its names' spans, and of a list what is asked of each item
abbrev pub printable : List ℕ → Walk {1}
printable source =
    record (holds (record { ident = IdentSliced source; string = StringSliced source; name = PackageNameSliced source; path = PackagePathSliced source; filled = λ b. Unit {0} })) { each = λ w xs. All w xs; filled = λ b a. a }

-- docs may be any
abbrev pub any_docs : List Doc → Type 0
any_docs docs = Unit {0}

-- a document can be printed
abbrev pub DocumentSliced : List ℕ → Document → Type 0
DocumentSliced source x = walk_document (printable source) any_docs x
