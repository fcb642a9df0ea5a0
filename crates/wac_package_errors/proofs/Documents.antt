-- What is found of a document.
use Rattle.std.proofs.Common.{ℕ, List, Result, Ok, Err}
use Rattle.std.specs.Prelude.{IfOk}
use Rattle.wac_ast_grammar.specs.Tree.{Document as Tree}
use Rattle.wac_ast_grammar.specs.TextTree.{IsTreeOf}
use Rattle.wac_package_errors.specs.Composed.{IsDocumentOrRejected}
use Rattle.wac_package_errors.specs.declared.first.Composed.{Composed}
use Rattle.wac_package_errors.specs.declared.first.Composed.TheVariants.{Resolved, Unresolved, Rejected}

-- whatever is found of a document
pub found_of : {E : Type 0} (text : List ℕ) (tree : Tree) (r : Result Composed E) → IsTreeOf text tree → IfOk r (λ c. IsDocumentOrRejected text c)
found_of text tree (Ok (Resolved graph)) is = (tree, is)
found_of text tree (Ok Unresolved) is = (tree, is)
found_of text tree (Ok (Rejected d)) is = tt
found_of text tree (Err e) is = tt
