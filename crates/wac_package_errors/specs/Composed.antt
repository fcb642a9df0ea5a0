-- What a text is found to be.
use Rattle.std.specs.Prelude.{ℕ, List}
use Rattle.wac_ast_grammar.specs.Tree.{Document as Tree}
use Rattle.wac_ast_grammar.specs.TextTree.{IsTreeOf}
use Rattle.wac_package_errors.specs.declared.first.Composed.{Composed}
use Rattle.wac_package_errors.specs.declared.first.Composed.TheVariants.{Resolved, Unresolved, Rejected}

-- the text is a document, unless it is rejected
abbrev pub IsDocumentOrRejected : List ℕ → Composed → Type 0
IsDocumentOrRejected text (Resolved graph) = (tree : Tree) × IsTreeOf text tree
IsDocumentOrRejected text Unresolved = (tree : Tree) × IsTreeOf text tree
IsDocumentOrRejected text (Rejected d) = Unit {0}
