use Rattle.wac_lexer.proofs.Common.{◌+◌, take, sym, refl, ap, ◌∙◌, arith}
use Rattle.wac_lexer.specs.Automaton.{state_at}
use Rattle.wac_lexer.specs.Front.{found_at, longest}
use Rattle.wac_lexer.proofs.States.{Reads, walk_reads, walk_longest, walk_ends}
use Rattle.wac_lexer.proofs.Tables.{found_longer, found_stays}
use Rattle.wac_lexer.proofs.automaton.longest_ended.Goals as goal
use Rattle.wac_lexer.proofs.automaton.longest_ended.Goals.{After-step-state, then-state-lt-ENDS, else-state-lt-ENDS}

-- the state after the byte knows what may follow
next_reads : (c : After-step-state) → Reads (state_at c.step-state.result) (take (c.loop-i.i + 1) c.args.bytes.now)
next_reads c = walk_reads c.args.bytes.now c.loop-i.i _ _ c.loop-i-test.true (omega (arith, c.type_inv.bytes c.loop-i.i)) c.loop-i.invariant.reads c.step-state.ensures.state

pub returns-then-state-eq-DEAD : goal.returns-then-state-eq-DEAD
returns-then-state-eq-DEAD c =
    c.front.ensures ∙ (c.loop-i.invariant.found_is
    ∙ walk_ends c.args.bytes.now c.loop-i.i _ c.loop-i-test.true (next_reads (goal.at.returns-then-state-eq-DEAD c).After-step-state) (ap state_at c.if-state-eq-DEAD.true))

pub loop-i-preserved : goal.loop-i-preserved
loop-i-preserved c =
    let reads = next_reads (goal.at.loop-i-preserved c).After-step-state in
    let before = longest c.args.bytes.now c.loop-i.i in
    let longer = sym (walk_longest c.args.bytes.now c.loop-i.i _ _ reads refl) in
    record {
      within = c.step-state.ensures.within;
      reads = reads;
      found_is =
          elim c.if-state-lt-ENDS.branch [
            | then-state-lt-ENDS w ↦ (λ i. found_at (w.len-is i) (w.last-is i)) ∙ found_longer (c.loop-i.i + 1) c.step-state.result before w.if-state-lt-ENDS.true ∙ longer
            | else-state-lt-ENDS w ↦ (λ i. found_at (w.len-is i) (w.last-is i)) ∙ c.loop-i.invariant.found_is ∙ sym (found_stays (c.loop-i.i + 1) c.step-state.result before w.if-state-lt-ENDS.false) ∙ longer
          ];
    }
