use Rattle.wac_ast.specs.Statements.{document_of}
use Rattle.wac_vectors.proofs.writers.is_cut_at.Goals as goal

pub printed_twice-answers-requires : goal.printed_twice-answers-requires
printed_twice-answers-requires c = c.trees_of_texts_can_be_printed.ensures c.args.source.now (document_of c.in-Ok.document) c.in-Ok.ensures.slices
