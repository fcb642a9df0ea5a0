use Rattle.wac_graph.proofs.Copying.{CopyingTexts}
use Rattle.wac_graph.proofs.copy.copy_names.Given as goal

abbrev pub invariant-loop-name : goal.invariant-loop-name
invariant-loop-name l = CopyingTexts l.from.keys l.copy.keys l.name-iterator
