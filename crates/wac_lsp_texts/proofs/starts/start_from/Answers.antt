use Rattle.std.proofs.Common.{◌≤◌, ◌+◌, arith, refl, length}
use Rattle.wac_positions.specs.Lines.{line_starts}
use Rattle.wac_lsp_texts.proofs.Starting.{step, stop}
use Rattle.wac_lsp_texts.proofs.starts.start_from.Goals as goal

pub returns-in-None-clause-none : goal.returns-in-None-clause-none
returns-in-None-clause-none c _ =
    let count : length (line_starts c.args.text.now) ≤ c.loop.counter + 1 = stop c.args.text.now c.loop.counter c.loop.start c.loop.invariant (c.in-None.ensures.none refl) in
    omega arith

pub loop-preserved : goal.loop-preserved
loop-preserved c = step c.args.text.now c.loop.counter c.loop.start c.in-Some.next c.loop.invariant c.in-Some.ensures.within c.in-Some.ensures.some
