use Rattle.wac_tool.proofs.Common.{◌≡◌, ◌++◌, ◌∙◌, ap, arith, length, length-append, take, string_bytes}
use Rattle.std.proofs.Common.{append-nil}
use Rattle.wac_tool.specs.Front.{Began}
use Rattle.wac_tool.proofs.Fronts.{began_at}
use Rattle.wac_tool.proofs.listing.put_part.Goals as goal

pub returns-then-not-put_all-clause-began : goal.returns-then-not-put_all-clause-began
returns-then-not-put_all-clause-began g c = λ _.
    let o = c.put_all.ensures.failed c.if-not-put_all.true in
    let old = g.S.Sink.bytes c.args.writer.now in
    began_at old (g.S.Sink.bytes c.put_all.new.sink) (string_bytes c.args.lines.now) o.0 (o.2 ∙ ap (λ x. old ++ take o.0 x) c.as_bytes.ensures.value)

pub returns-then-not-put_all-clause-grows : goal.returns-then-not-put_all-clause-grows
returns-then-not-put_all-clause-grows g c =
    let o = c.put_all.ensures.failed c.if-not-put_all.true in
    let old = g.S.Sink.bytes c.args.writer.now in
    (began_at old (g.S.Sink.bytes c.put_all.new.sink) c.as_bytes.result.now o.0 o.2).1

pub returns-clause-put : goal.returns-clause-put
returns-clause-put g c = λ _.
    let new = g.S.Sink.bytes c.put_all.new.sink in
    let o = c.put_all.ensures.taken c.if-not-put_all.false in
    ap (λ x. new ++ x) c.clear.ensures.bytes ∙ append-nil new ∙ o.0 ∙ ap (λ x. g.S.Sink.bytes c.args.writer.now ++ x) c.as_bytes.ensures.value

pub returns-clause-grows : goal.returns-clause-grows
returns-clause-grows g c =
    let o = c.put_all.ensures.taken c.if-not-put_all.false in
    omega (arith, ap length o.0, length-append (g.S.Sink.bytes c.args.writer.now) c.as_bytes.result.now)
