use Rattle.std.proofs.Common.{string_bytes}
use Rattle.wac_comments.proofs.Alike.{on_ok, same_comments, same_docs}
use Rattle.wac_comments.proofs.tidying.tidy.Goals as goal

pub returns-in-Ok-clause-comments : goal.returns-in-Ok-clause-comments
returns-in-Ok-clause-comments c = on_ok c.tidied.result (λ text kept. same_comments c.args.source.now (string_bytes text) kept) c.tidied.ensures.kept

pub returns-in-Ok-clause-docs : goal.returns-in-Ok-clause-docs
returns-in-Ok-clause-docs c = on_ok c.tidied.result (λ text kept. same_docs c.args.source.now (string_bytes text) kept) c.tidied.ensures.kept
