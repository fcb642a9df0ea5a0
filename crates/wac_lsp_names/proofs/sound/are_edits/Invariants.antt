use Rattle.wac_lsp_names.proofs.Following.{Follows}
use Rattle.wac_lsp_names.proofs.sound.are_edits.Given as goal

abbrev pub invariant-loop-edit : goal.invariant-loop-edit
invariant-loop-edit l = Follows l.change.source.now l.change.old.now l.change.new.now l.edits l.edit-index l.place
