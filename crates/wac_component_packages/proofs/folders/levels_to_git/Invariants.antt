use denote.Shadow.{shadow}
use denote.Text.{Utf8}
use Rattle.std.proofs.Common.{◌≡◌}
use Rattle.wac_component_packages.proofs.folders.levels_to_git.Given as goal

abbrev pub invariant-loop-level : goal.invariant-loop-level
invariant-loop-level g l = g.F.FileSystem.replaced l.files ≡ g.F.FileSystem.replaced l.fn.files × shadow (Utf8 l.place)
