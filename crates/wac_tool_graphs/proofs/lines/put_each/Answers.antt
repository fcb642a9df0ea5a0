use Rattle.std.proofs.Common.{◌+◌, ◌∙◌, ap, subst}
use Rattle.wac_tool_graphs.specs.Puts.{Began}
use Rattle.wac_tool_graphs.proofs.Putting.{began_at}
use Rattle.wac_tool_graphs.proofs.lines.put_each.Goals as goal

pub returns-then-not-put_all : goal.returns-then-not-put_all
returns-then-not-put_all g c =
    let i = c.loop-part.invariant in
    let o = c.put_all.ensures.failed c.if-not-put_all.true in
    let old = g.S.Sink.bytes c.loop-part.out in
    let new = g.S.Sink.bytes c.put_all.new.sink in
    let part : Began old new c.as_bytes.result.now = record { count = o.0; fewer = o.1; is = o.2 } in (
      began_at (λ part. part.now) (g.S.Sink.bytes c.args.out.now) old new c.args.parts.now c.loop-part.part-index _ c.loop-part-test.true i.put (subst (Began old new) c.as_bytes.ensures.value part),
      o.3 ∙ ap (λ n. n + 1) i.failures,
    )
