use Rattle.wac_tool.proofs.Common.{subst, string_bytes}
use Rattle.wac_tool.specs.Front.{Began}
use Rattle.wac_tool.proofs.Fronts.{began_at}
use Rattle.wac_tool.proofs.packages.write_packages.Goals as goal

pub returns-clause-answers : goal.returns-clause-answers
returns-clause-answers g c =
    let lines = string_bytes c.in_ok-lines.lines in
    let o = c.put_all.ensures.failed c.if-put_all.false in
    let old = g.S.Sink.bytes c.args.writer.now in
    let new = g.S.Sink.bytes c.put_all.new.sink in
    let part : Began old new lines = subst (λ x. Began old new x) c.as_bytes.ensures.value (began_at old new c.as_bytes.result.now o.0 o.2) in
    (c.requires, (lines, c.in_ok-lines.ensures.ok, part))
