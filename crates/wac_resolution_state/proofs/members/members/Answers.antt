use Rattle.wac_resolution_state.proofs.Common.{rules, sym}
use Rattle.wac_resolution_state.proofs.Walks.{walk_on, walk_misses, walk_ends}
use Rattle.wac_resolution_state.proofs.members.members.Goals as goal

pub returns-in-None-export-clause-err : goal.returns-in-None-export-clause-err
returns-in-None-export-clause-err c =
    walk_misses c.args.graph.now c.args.first.now c.args.from c.args.rest c.loop-segment.segment-iterator c.next.new.self
    (record { before = c.loop-segment.before; last = c.loop-segment.last; kind = c.loop-segment.kind; segment = c.in-Some.segment; span = c.in-Some.span })
    c.in-Some.ensures.steps c.loop-segment.invariant.3 (λ numbering. sym (c.in-None-export.ensures.means numbering))

pub loop-segment-preserved : goal.loop-segment-preserved
loop-segment-preserved c = (
  tt,
  tt,
  search rules,
  walk_on c.args.graph.now c.args.first.now c.args.from c.args.rest c.loop-segment.segment-iterator c.next.new.self c.loop-segment.before c.loop-segment.last.now c.loop-segment.kind c.in-Some.segment.now c.in-Some.span
      c.in-Some.ensures.steps c.loop-segment.invariant.3 c.in-Some-export.export c.in-Some-export.ensures.named (λ numbering. sym (c.in-Some-export.ensures.means numbering)),
)

pub returns-clause-ok : goal.returns-clause-ok
returns-clause-ok c =
    walk_ends c.args.graph.now c.args.first.now c.args.from c.args.rest c.loop-segment.segment-iterator c.loop-segment.before c.loop-segment.last.now c.loop-segment.kind c.in-None.ensures.steps.0 c.loop-segment.invariant.3
