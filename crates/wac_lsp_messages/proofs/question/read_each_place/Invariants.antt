use Rattle.wac_lsp_messages.proofs.Each.{EachSoFar}
use Rattle.wac_lsp_messages.proofs.question.read_each_place.Given as goal
use Rattle.wac_lsp_messages.specs.Reading.{place_of}

abbrev pub invariant-loop-value : goal.invariant-loop-value
invariant-loop-value l = EachSoFar place_of (λ it. it) l.values l.value-index l.all.items
