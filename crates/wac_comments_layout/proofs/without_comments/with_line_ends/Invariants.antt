use Rattle.wac_comments_layout.proofs.Common.{◌≡◌, ◌++◌, false, drop}
use Rattle.wac_comments_layout.specs.Plain.{with_line_ends}
use Rattle.wac_comments_layout.proofs.without_comments.with_line_ends.Given as goal

abbrev pub invariant-loop-byte : goal.invariant-loop-byte
invariant-loop-byte l = l.found.items ++ with_line_ends l.line_end l.quoted (drop l.byte-index l.bytes) ≡ with_line_ends l.line_end false l.bytes
