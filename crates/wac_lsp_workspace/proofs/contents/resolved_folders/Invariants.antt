use Rattle.std.proofs.Common.{◌≡◌}
use Rattle.wac_lsp_workspace.proofs.contents.resolved_folders.Given as goal

abbrev pub invariant-loop-folder : goal.invariant-loop-folder
invariant-loop-folder g l = g.F.FileSystem.replaced l.files ≡ g.F.FileSystem.replaced l.fn.files
