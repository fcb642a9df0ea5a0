use Rattle.wac_lexer.proofs.Common.{◌≡◌, ◌∙◌, ◌<◌, sym, subst, take, length, arith, eqb-true}
use Rattle.wac_lexer.specs.Automaton.{state_at}
use Rattle.wac_lexer.specs.Automaton.State.{Start}
use Rattle.wac_lexer.proofs.Boundaries.{ne_zero}
use Rattle.wac_lexer.proofs.States.{Reads, walk_reads, reads_none}
use Rattle.wac_lexer.proofs.Tables.{ended_alone}
use Rattle.wac_lexer.proofs.automaton.begins_alone.Goals as goal

pub returns : goal.returns
returns c = λ yes.
    let bytes = c.args.bytes.now in
    let some : 0 < length bytes = ne_zero (length bytes) (sym c.is_empty.ensures ∙ c.if-is_empty.false) in
    let reads : Reads (state_at c.step.result) (take 1 bytes) =
    walk_reads bytes 0 Start (state_at c.step.result) some (omega (arith, c.type_inv.bytes 0)) reads_none c.step.ensures.state in
    let ended : c.step.result ≡ 12 = eqb-true c.step.result 12 yes in
    ended_alone bytes some (λ k. omega (arith, c.type_inv.bytes k)) (subst (λ s. Reads (state_at s) (take 1 bytes)) ended reads)
