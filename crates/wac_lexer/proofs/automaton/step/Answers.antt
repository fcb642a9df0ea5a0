use Rattle.wac_lexer.proofs.Common.{◌+◌, ◌*◌, ◌<◌, ap, ◌∙◌, arith}
use Rattle.wac_lexer.specs.Automaton.{class_at, step_of, state_at}
use Rattle.wac_lexer.proofs.Tables.{step_is, step_within}
use Rattle.wac_lexer.proofs.automaton.step.Goals as goal

pub returns-clause-state : goal.returns-clause-state
returns-clause-state c =
    let class : c.from.result < 16 = omega (arith, c.class_of.ensures.within, c.from.ensures) in
    ap state_at c.from-2.ensures
    ∙ step_is c.args.state c.from.result c.requires class
    ∙ (λ i. step_of (state_at c.args.state) (class_at (c.from.ensures i)))
    ∙ ap (step_of (state_at c.args.state)) c.class_of.ensures.class

pub returns-clause-within : goal.returns-clause-within
returns-clause-within c =
    let entry = step_within (c.args.state * 16 + c.from.result) (omega (arith, c.requires, c.class_of.ensures.within, c.from.ensures)) in
    omega (arith, entry, c.from-2.ensures)
