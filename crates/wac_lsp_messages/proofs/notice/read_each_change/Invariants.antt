use Rattle.wac_lsp_messages.proofs.Each.{EachSoFar}
use Rattle.wac_lsp_messages.proofs.notice.read_each_change.Given as goal
use Rattle.wac_lsp_messages.specs.Notices.{change_of, said}

abbrev pub invariant-loop-value : goal.invariant-loop-value
invariant-loop-value l = EachSoFar change_of said l.values l.value-index l.all.items
