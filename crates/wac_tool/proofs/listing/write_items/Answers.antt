use Rattle.wac_tool.proofs.Common.{◌≡◌, ◌++◌, ◌∙◌, ap, refl, rules, arith, take, string_bytes, Err, alloc_error, left}
use Rattle.wac_tool.specs.Running.{item_lines}
use Rattle.wac_tool.specs.declared.error.RunError.TheVariants.{Memory}
use Rattle.wac_tool.proofs.Faults.{not_listed}
use Rattle.wac_tool.proofs.Fronts.{began_at}
use Rattle.wac_tool.proofs.ItemLines.{item_lines-next, item_lines-none, lines_held, all_held, began, began_more, interrupted, ran_out}
use Rattle.wac_tool.proofs.listing.write_items.Goals as goal

pub loop-item-preserved : goal.loop-item-preserved
loop-item-preserved g c =
    let i = c.loop-item.invariant in
    let n = c.in-Some.ensures.steps in
    let next = item_lines-next (left c.loop-item.item-iterator) (left c.next.new.self) c.in-Some.item c.in-Some.span n.gives n.rest in
    let put = c.put_part.ensures.put c.if-not-put_part.false ∙ ap (λ x. g.S.Sink.bytes c.loop-item.writer ++ x) c.in_ok-push_line.ensures in
    record {
      lines = lines_held _ _ _ _ _ _ _ _ put next i.lines;
      longer = omega (arith, i.longer, c.put_part.ensures.grows);
      failures = c.put_part.ensures.works c.if-not-put_part.false ∙ i.failures;
      passes = i.passes;
    }

pub returns-in_err-push_line-clause-answers : goal.returns-in_err-push_line-clause-answers
returns-in_err-push_line-clause-answers g c =
    let i = c.loop-item.invariant in
    let e : c.from_residual.result ≡ Err (Memory alloc_error) = search rules in
    ran_out c.from_residual.result c.args.source.now _ _ e (interrupted c.args.source.now _ _ i.passes (began _ _ _ _ i.lines i.longer))

pub returns-then-not-put_part-clause-answers : goal.returns-then-not-put_part-clause-answers
returns-then-not-put_part-clause-answers g c =
    let i = c.loop-item.invariant in
    let n = c.in-Some.ensures.steps in
    let next = item_lines-next (left c.loop-item.item-iterator) (left c.next.new.self) c.in-Some.item c.in-Some.span n.gives n.rest in
    let held = lines_held _ _ _ _ _ _ _ _ (ap (λ x. g.S.Sink.bytes c.loop-item.writer ++ x) c.in_ok-push_line.ensures) next i.lines in
    (c.requires, interrupted c.args.source.now _ _ i.passes (began_more _ _ _ _ _ _ _ held refl i.longer (c.put_part.ensures.began c.if-not-put_part.true)))

pub returns-then-put_all-clause-answers : goal.returns-then-put_all-clause-answers
returns-then-put_all-clause-answers g c =
    let i = c.loop-item.invariant in
    let old = g.S.Sink.bytes c.loop-item.writer in
    let wrote : g.S.Sink.bytes c.put_all.new.sink ≡ old ++ string_bytes c.loop-item.lines =
    (c.put_all.ensures.taken c.if-put_all.true).0 ∙ ap (λ x. old ++ x) c.as_bytes.ensures.value in
    let whole = all_held _ _ _ _ (item_lines-none (left c.loop-item.item-iterator) c.in-None.ensures.steps.gives) i.lines in
    (c.requires, (_, (i.passes, refl), wrote ∙ whole))

pub returns-clause-answers : goal.returns-clause-answers
returns-clause-answers g c =
    let i = c.loop-item.invariant in
    let o = c.put_all.ensures.failed c.if-put_all.false in
    let old = g.S.Sink.bytes c.loop-item.writer in
    let part = began_at old (g.S.Sink.bytes c.put_all.new.sink) (string_bytes c.loop-item.lines) o.0 (o.2 ∙ ap (λ x. old ++ take o.0 x) c.as_bytes.ensures.value) in
    (c.requires, interrupted c.args.source.now _ _ i.passes (began_more _ _ _ _ _ _ _ i.lines refl i.longer part))

pub returns-in-Err-clause-answers : goal.returns-in-Err-clause-answers
returns-in-Err-clause-answers g c = not_listed c.args.source.now c.in-Err.fault c.faulty.result (g.S.Sink.bytes c.args.writer.now) c.requires c.in-Err.ensures.refused c.faulty.ensures
