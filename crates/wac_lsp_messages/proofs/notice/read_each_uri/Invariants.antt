use Rattle.std.specs.Prelude.{codes, string_bytes}
use Rattle.wac_lsp_messages.proofs.Each.{EachSoFar}
use Rattle.wac_lsp_messages.proofs.notice.read_each_uri.Given as goal
use Rattle.wac_lsp_messages.specs.Reading.{text_in}

abbrev pub invariant-loop-value : goal.invariant-loop-value
invariant-loop-value l = EachSoFar (text_in (codes "uri")) string_bytes l.values l.value-index l.all.items
