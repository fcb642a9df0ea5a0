use Rattle.wac_resolution_state.proofs.Common.{err_from_is_err_and, ident_of, reports}
use Rattle.wac_resolution_state.proofs.Composed.{still_there}
use Rattle.wac_resolution_state.proofs.Roots.{binds, kinds_fresh}
use Rattle.wac_resolution_state.proofs.root.Root.bind.Goals as goal

pub returns-in_err-check_fresh-clause-err : goal.returns-in_err-check_fresh-clause-err
returns-in_err-check_fresh-clause-err c =
    let p = err_from_is_err_and c.from_residual.result c.from_residual.ensures.1 in
    rw (p.1, p.2) (reports c.in_err-check_fresh.ensures.err (λ err numbering all same. err numbering c.args.state.now.graph all same))

pub kind-kind-requires : goal.kind-kind-requires
kind-kind-requires c = still_there c.args.state.now.graph c.name_node.new.state.graph c.args.node.0 c.in_ok-name_node.ensures.grows c.requires.there

pub bind-requires-2 : goal.bind-requires-2
bind-requires-2 c = kinds_fresh c.args.state.now.graph c.args.self.now c.args.id.now.string.now c.requires.agrees c.in_ok-check_fresh.ensures.ok

pub returns-clause-ok : goal.returns-clause-ok
returns-clause-ok c =
    binds c.args.state.now.graph c.name_node.new.state.graph c.args.self.now (record { nodes = c.bind.new.self; kinds = c.bind-2.new.self }) (ident_of c.args.id.now) c.args.node c.kind-kind.result
    c.requires.agrees c.in_ok-check_fresh.ensures.ok c.in_ok-name_node.ensures c.kind-kind.ensures.kind c.in_ok-bind.ensures.ok c.in_ok-bind-2.ensures.ok
