use Rattle.wac_lexer.proofs.Common.{sym, ap, ◌++◌, ◌∙◌, append_assoc, take, arith, take-add}
use Rattle.wac_lexer.proofs.device.put_until_failure.Goals as goal

pub put-preserved : goal.put-preserved
put-preserved g c =
    let i = c.put.invariant in
    let o = c.in-Some.ensures.puts in
    let p = c.args.part.now in
    let b = g.S.Sink.bytes c.args.sink.now in
    let n = c.in-Some.n in record {
      taken = o.2 ∙ ap (λ x. x ++ take n c.split_at.result.1.now) i.taken ∙ append_assoc b (take c.put.at p) (take n c.split_at.result.1.now)
          ∙ ap (λ x. b ++ (take c.put.at p ++ take n x)) c.split_at.ensures.back ∙ ap (λ x. b ++ x) (sym (take-add c.put.at n p));
      count = search arith;
      failures = o.3 ∙ i.failures;
      borrow = c.in-Some.ensures.same ∙ i.borrow;
    }
