-- What is asked of all texts of a bare tree.
use Rattle.std.specs.Prelude.{◌≡◌, ℕ, List, Some, Bool, true, false}
use Rattle.std.specs.List.{AllByRecursion}
use Rattle.wac_lexer.specs.Item.{Doc}
use Rattle.wac_lexer.specs.Tokens.{token_of}
use Rattle.wac_lexer.specs.declared.token.Token.TheVariants as tokens
use Rattle.wac_ast_grammar.specs.Version.{unversioned, path_name, path_segments, version_of, reads_version}
use Rattle.wac_ast_grammar.specs.Tree.{Document, Ident, PackageName, PackagePath, String}
use Rattle.wac_ast_grammar.specs.Walk.{Walk, walk_document}
use Rattle.wac_ast_grammar.specs.Leaves.{Asked, holds}
use Rattle.wac_printer_layout.specs.Joins.{IsDocLine}
use Rattle.wac_printer_layout.specs.Accepted.{IsAccepted}

-- the sorts of texts that a tree has
pub data Sort : Type 0 where
  word : Sort
  string : Sort
  package_name : Sort
  package_path : Sort
  doc_line : Sort

-- what is asked of a text of each sort
abbrev pub Sorted : Type 1
Sorted = Sort → List ℕ → Type 0

-- a text is spelled as its sort: it is such a token, with a right version, or a
-- line of docs; and it has no rejected character
abbrev pub Spelled : Sorted
Spelled word t = token_of t ≡ Some tokens.Ident
Spelled string t = (token_of t ≡ Some tokens.String) × IsAccepted t
Spelled package_name t = (token_of t ≡ Some tokens.PackageName) × (reads_version t ≡ true)
Spelled package_path t = (token_of t ≡ Some tokens.PackagePath) × (reads_version t ≡ true)
Spelled doc_line t = IsDocLine t

-- ---- names and docs

abbrev pub DocsHave : Sorted → List Doc → Type 0
DocsHave P docs = AllByRecursion (λ d. P doc_line d.comment) docs

abbrev pub IdentHas : Sorted → Ident → Type 0
IdentHas P x = P word x.string

abbrev pub StringHas : Sorted → String → Type 0
StringHas P x = P string x.value

abbrev pub PackageNameHas : Sorted → PackageName → Type 0
PackageNameHas P x = P package_name x.string × (x.name ≡ unversioned x.string) × (x.version ≡ version_of x.string)

abbrev pub PackagePathHas : Sorted → PackagePath → Type 0
PackagePathHas P x = P package_path x.string × (x.name ≡ path_name x.string) × (x.segments ≡ path_segments x.string) × (x.version ≡ version_of x.string)

-- there is an item where the grammar wants one
abbrev pub Filled : Bool → Type 0
Filled true = Unit {0}
Filled false = ⊥

-- what is asked of the leaves of a tree
abbrev pub leaves_have : Sorted → Asked
leaves_have P = record { ident = IdentHas P; string = StringHas P; name = PackageNameHas P; path = PackagePathHas P; filled = Filled }

-- the walk that asks it of a tree
abbrev pub has : Sorted → Walk {1}
has P = holds (leaves_have P)

-- it is asked of a document and of its docs
abbrev pub DocumentHas : Sorted → Document → Type 0
DocumentHas P x = walk_document (has P) (DocsHave P) x
