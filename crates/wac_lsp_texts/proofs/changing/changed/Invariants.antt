use Rattle.std.specs.Prelude.{string_bytes}
use Rattle.wac_lsp_texts.specs.Started.{Starts}
use Rattle.wac_lsp_texts.proofs.Following.{Follows}
use Rattle.wac_lsp_texts.proofs.changing.changed.Given as goal

abbrev pub invariant-loop-change : goal.invariant-loop-change
invariant-loop-change l = record {
  follows : Follows l.unit l.text l.changes l.change-index (string_bytes l.after.text);
  starts : Starts (string_bytes l.after.text) l.after.line.line l.after.line.offset;
}
