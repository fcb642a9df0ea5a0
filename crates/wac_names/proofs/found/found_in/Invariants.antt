use Rattle.wac_names.proofs.Finding.{FoundSo}
use Rattle.wac_names.proofs.found.found_in.Given as goal

abbrev pub invariant-loop-step : goal.invariant-loop-step
invariant-loop-step l = FoundSo l.source l.own l.steps l.step-index l.scopes l.all.items
