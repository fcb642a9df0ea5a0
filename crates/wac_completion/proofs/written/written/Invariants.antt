use Rattle.std.specs.List.{All}
use Rattle.wac_completion.specs.Names.{IsWritten}
use Rattle.wac_completion.proofs.written.written.Given as goal

abbrev pub invariant-loop-name : goal.invariant-loop-name
invariant-loop-name l = All (IsWritten l.text) l.all.items
