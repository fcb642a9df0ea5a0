use Rattle.std.proofs.Common.{◌-◌, length}
use Rattle.wac_lsp_messages.proofs.surrogates.without_lone_surrogates.Given as goal

abbrev pub decreases-loop-at : goal.decreases-loop-at
decreases-loop-at l = length l.bytes - l.at
