use Rattle.wac_ast_grammar.proofs.Ordered.{document_slices, document_spelled}
use Rattle.wac_ast_grammar.proofs.laws.trees_stand_in_their_text.Goals as goal

pub returns : goal.returns
returns c = λ text tree utf8 i. (document_slices text tree utf8 (c.items_stand_in_order.ensures text utf8) i, document_spelled text tree (c.items_stand_in_order.ensures text utf8) i)
