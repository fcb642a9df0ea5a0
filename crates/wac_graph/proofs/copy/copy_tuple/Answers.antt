use Rattle.wac_graph.proofs.Common.{◌∙◌, List, ap, arith, ValueType, tuple_children}
use Rattle.wac_graph.specs.Moved.{moved_children}
use Rattle.wac_graph.proofs.Views.{tuple_start, tuple_fits, tuple_step, taken_all, read_at}
use Rattle.wac_graph.proofs.copy.copy_tuple.Goals as goal

pub loop-value-init : goal.loop-value-init
loop-value-init c = tuple_start c.args.n c.args.from.now c.in_ok-copy.copy.items c.in_ok-copy.ensures.items

pub moved_value-requires : goal.moved_value-requires
moved_value-requires c = tuple_fits c.args.n c.loop-value.value-index c.args.from.now _ (read_at c.args.from.now c.loop-value.value-index _ c.loop-value-test.true) c.requires

pub loop-value-preserved : goal.loop-value-preserved
loop-value-preserved c = tuple_step c.args.n c.loop-value.value-index c.args.from.now c.loop-value.copy.items c.push.new.self.items _ c.moved_value.result (read_at c.args.from.now c.loop-value.value-index _ c.loop-value-test.true) c.loop-value.invariant c.moved_value.ensures c.in_ok-push.ensures.items

pub returns : goal.returns
returns c = c.loop-value.invariant ∙ ap (λ (l : List ValueType). moved_children c.args.n (tuple_children l)) (taken_all c.args.from.now c.loop-value.value-index (omega arith))
