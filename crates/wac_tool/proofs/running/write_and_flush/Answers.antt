use Rattle.wac_tool.proofs.Common.{rules, ◌≡◌, Err, sym, subst}
use Rattle.wac_tool.specs.Running.{Answers}
use Rattle.wac_tool.proofs.InBlocks.{stopped, stopped_same, held_on}
use Rattle.wac_tool.proofs.running.write_and_flush.Goals as goal

pub returns-in_err-write-clause-answers : goal.returns-in_err-write-clause-answers
returns-in_err-write-clause-answers g c =
    let error = c.in_err-write.field-0.0 in
    let e : c.from_residual.result ≡ Err error = search rules in
    let old = c.args.blocks.now in
    let new = c.write.new.writer in
    let w : Answers c.args.command (Err error) c.args.source.now _ _ = c.in_err-write.ensures.answers in
    λ grown. subst (λ r. Answers c.args.command r c.args.source.now old.sunk new.sunk) (sym e) (stopped c.args.command error c.args.source.now old new c.requires.fresh w grown)

pub returns-in_err-write-clause-same : goal.returns-in_err-write-clause-same
returns-in_err-write-clause-same g c = stopped_same _ _ c.args.source.now c.args.blocks.now c.write.new.writer c.in_err-write.ensures.answers

pub returns-else-flush-clause-answers : goal.returns-else-flush-clause-answers
returns-else-flush-clause-answers g c =
    let a = c.in_ok-write.ensures.answers in
    λ grown. (a.0, (a.1.0, a.1.1, held_on c.args.blocks.now c.write.new.writer c.flush.new.self a.1.0 c.requires.fresh a.1.2 c.flush.ensures.same grown))
