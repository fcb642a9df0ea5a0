use Rattle.std.specs.List.{All}
use Rattle.wac_names.specs.Places.{IsTied}
use Rattle.wac_names.proofs.tied.tied.Given as goal

abbrev pub invariant-loop-mention : goal.invariant-loop-mention
invariant-loop-mention l = All (IsTied l.source l.names) l.all.items
