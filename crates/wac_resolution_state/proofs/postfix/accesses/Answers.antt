use Rattle.wac_resolution_state.proofs.Common.{err_from_is_err_and, error_model, reports}
use Rattle.wac_resolution_state.proofs.Instances.{access_next, access_breaks}
use Rattle.wac_resolution_state.proofs.postfix.accesses.Goals as goal

pub returns-in_err-node-clause-err : goal.returns-in_err-node-clause-err
returns-in_err-node-clause-err c =
    let p = err_from_is_err_and c.from_residual.result c.from_residual.ensures.1 in
    rw (p.1, p.2) (reports c.in_err-node.ensures.err (access_breaks c.args.state.now.graph c.loop-next.state.graph c.args.node.0 c.loop-next.node.0 c.args.span c.loop-next.span (error_model c.in_err-node.field-0.0) c.args.accesses.now c.loop-next.next-index c.next-item.result
    c.loop-next-test.true c.next-item.is c.loop-next.invariant))

pub loop-next-preserved : goal.loop-next-preserved
loop-next-preserved c =
    access_next c.args.state.now.graph c.loop-next.state.graph c.access.new.state.graph c.args.node.0 c.loop-next.node.0 c.in_ok-node.node.0 c.args.span c.loop-next.span c.span-span.result c.args.accesses.now c.loop-next.next-index c.next-item.result
    c.loop-next-test.true c.next-item.is c.loop-next.invariant c.in_ok-node.ensures.ok c.span-span.ensures
