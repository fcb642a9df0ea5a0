use Rattle.wac_ast_grammar.proofs.Common.{◌≡◌, true}
use Rattle.wac_ast_grammar.proofs.Listed.{document_listed}
use Rattle.wac_ast_grammar.proofs.laws.trees_are_as_their_leaves.Goals as goal

pub returns : goal.returns
returns c = λ test tree. document_listed (λ leaf. test leaf ≡ true) tree
