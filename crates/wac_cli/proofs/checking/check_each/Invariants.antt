use Rattle.wac_cli.proofs.Common.{◌≡◌, take}
use Rattle.wac_cli.specs.Checked.{AreChecks}
use Rattle.wac_cli.proofs.checking.check_each.Given as goal

abbrev pub invariant-loop-found : goal.invariant-loop-found
invariant-loop-found g l = record {
  looks : g.F.FileSystem.replaced l.files ≡ g.F.FileSystem.replaced l.fn.files;
  checks : AreChecks (take l.found-index l.found) l.outcomes.items;
}
