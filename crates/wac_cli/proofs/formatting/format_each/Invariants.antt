use Rattle.wac_cli.proofs.Common.{take}
use Rattle.wac_cli.specs.Formatted.{ComeTo}
use Rattle.wac_cli.proofs.formatting.format_each.Given as goal

abbrev pub invariant-loop-found : goal.invariant-loop-found
invariant-loop-found g l =
    ComeTo l.fn.options (take l.found-index l.found) l.outcomes.items (g.F.FileSystem.replaced l.fn.files) (g.F.FileSystem.replaced l.files)
