use Rattle.wac_lsp_texts.specs.Started.{Starts}
use Rattle.wac_lsp_texts.proofs.starts.start_from.Given as goal

abbrev pub invariant-loop : goal.invariant-loop
invariant-loop l = Starts l.text l.counter l.start
