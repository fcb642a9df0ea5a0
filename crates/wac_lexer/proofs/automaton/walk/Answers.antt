use Rattle.wac_lexer.proofs.Common.{◌≡◌, ◌+◌, ◌∙◌, length, take, ap, subst, arith}
use Rattle.wac_lexer.specs.Automaton.{state_at}
use Rattle.wac_lexer.specs.Front.{found_at, longest}
use Rattle.wac_lexer.proofs.States.{Reads, walk_reads, walk_ends}
use Rattle.wac_lexer.proofs.Tables.{found_there}
use Rattle.wac_lexer.proofs.automaton.walk.Goals as goal
use Rattle.wac_lexer.proofs.automaton.walk.Goals.{After-step-next}

-- the state after the byte knows what may follow
next_reads : (c : After-step-next) → Reads (state_at c.step-next.result) (take (c.loop-i.i + 1) c.args.bytes.now)
next_reads c = walk_reads c.args.bytes.now c.loop-i.i _ _ c.loop-i-test.true (omega (arith, c.type_inv.bytes c.loop-i.i)) c.loop-i.invariant.reads c.step-next.ensures.state

pub returns-then-next-eq-DEAD : goal.returns-then-next-eq-DEAD
returns-then-next-eq-DEAD c = λ ends.
    found_there c.args.bytes.now c.loop-i.i _ c.loop-i.invariant.reads ends
    ∙ walk_ends c.args.bytes.now c.loop-i.i _ c.loop-i-test.true (next_reads (goal.at.returns-then-next-eq-DEAD c).After-step-next) (ap state_at c.if-next-eq-DEAD.true)

pub loop-i-preserved : goal.loop-i-preserved
loop-i-preserved c =
    record { within = c.step-next.ensures.within; reads = next_reads (goal.at.loop-i-preserved c).After-step-next }

pub returns : goal.returns
returns c = λ ends.
    let all : c.loop-i.i ≡ length c.args.bytes.now = omega (arith, c.loop-i.auto.i-end, c.loop-i-test.false) in
    subst (λ n. found_at n c.loop-i.state ≡ longest c.args.bytes.now n) all (found_there c.args.bytes.now c.loop-i.i _ c.loop-i.invariant.reads ends)
