use Rattle.std.proofs.Common.{◌≡◌, ◌++◌, take}
use Rattle.std.specs.Prelude.{flat_map}
use Rattle.wac_tool_graphs.proofs.lines.put_each.Given as goal

abbrev pub invariant-loop-part : goal.invariant-loop-part
invariant-loop-part g l = record {
  put : g.S.Sink.bytes l.out ≡ g.S.Sink.bytes l.fn.out ++ flat_map (λ part. part.now) (take l.part-index l.parts);
  failures : g.S.Sink.failures l.out ≡ g.S.Sink.failures l.fn.out;
}
