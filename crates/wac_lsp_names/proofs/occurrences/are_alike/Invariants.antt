use Rattle.std.proofs.Common.{take}
use Rattle.std.specs.List.{All}
use Rattle.wac_lsp_names.specs.Occurrences.{IsAlike}
use Rattle.wac_lsp_names.proofs.occurrences.are_alike.Given as goal

abbrev pub invariant-loop-span : goal.invariant-loop-span
invariant-loop-span l = All (IsAlike l.source l.bound) (take l.span-index l.spans)
