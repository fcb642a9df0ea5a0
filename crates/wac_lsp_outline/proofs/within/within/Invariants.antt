use Rattle.std.specs.List.{All}
use Rattle.wac_lsp_outline.specs.Within.{IsWithin}
use Rattle.wac_lsp_outline.proofs.within.within.Given as goal

abbrev pub invariant-loop-symbol : goal.invariant-loop-symbol
invariant-loop-symbol l = All (IsWithin l.text) l.all.items
