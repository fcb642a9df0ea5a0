use Rattle.std.proofs.Common.{ℕ, inl, inr, refl, subst}
use Rattle.wac_calls.specs.Calls.{Answered}
use Rattle.wac_c.proofs.run.wac_run.Goals as goal

pub returns-in-Some : goal.returns-in-Some
returns-in-Some c =
    let answered =
    subst (λ (l : ℕ). Answered (record { word = c.in-Some.word; limit = l }) c.args.text.now c.call.result c.args.out.now c.call.new.out c.args.message.now c.call.new.message)
    c.limit_of-limit.ensures c.call.ensures in
    inl (c.in-Some.word, c.call.result, c.in-Some.ensures.numbered, answered, c.c_answer.ensures)

pub returns-in-None : goal.returns-in-None
returns-in-None c = inr (c.in-None.ensures.unnumbered, c.unknown.ensures, refl, refl)
