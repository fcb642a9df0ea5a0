use Rattle.std.proofs.Common.{◌≡◌}
use Rattle.wac_lsp_workspace.proofs.contents.FolderContents.components.Given as goal

abbrev pub invariant-loop-file : goal.invariant-loop-file
invariant-loop-file g l = g.F.FileSystem.replaced l.files ≡ g.F.FileSystem.replaced l.fn.files
