use Rattle.wac_resolution_expressions.proofs.Common.{inl, inr, err_from_is_err_and, ident_of, error_model, numbers_of, reports}
use Rattle.wac_resolution_expressions.proofs.SpreadSteps.{spread_goes, spread_matches_none}
use Rattle.wac_resolution_expressions.proofs.spread_arguments.spread.Goals as goal

pub returns-in_err-node-clause-err : goal.returns-in_err-node-clause-err
returns-in_err-node-clause-err c =
    let p = err_from_is_err_and c.from_residual.result c.from_residual.ensures.1 in
    rw (p.1, p.2) (reports c.in_err-node.ensures.err (λ err numbering before. inl err))

pub instance-requires : goal.instance-requires
instance-requires c = c.in_ok-node.ensures.ok.there c.args.state.now.graph c.requires.agrees

pub returns-in_err-instance-clause-err : goal.returns-in_err-instance-clause-err
returns-in_err-instance-clause-err c =
    let p = err_from_is_err_and c.from_residual-in_err-instance.result c.from_residual-in_err-instance.ensures.1 in
    rw (p.1, p.2) (inr (λ numbering before. inr (c.in_ok-node.node.0, c.in_ok-node.ensures.ok.is, inl (c.in_err-instance.ensures.err numbering (numbers_of c.args.root.now.nodes)))))

pub spread_from-requires-clause-agrees : goal.spread_from-requires-clause-agrees
spread_from-requires-clause-agrees c = c.requires.agrees.nodes

pub returns-in_err-check_more-clause-err : goal.returns-in_err-check_more-clause-err
returns-in_err-check_more-clause-err c =
    let p = err_from_is_err_and c.from_residual-in_err-check_more.result c.from_residual-in_err-check_more.ensures.1 in
    rw (p.1, p.2) (inr (spread_matches_none c.args.state.now.graph c.spread_from.new.state.graph c.args.root.now c.args.given.now.entries c.spread_from.new.given.entries c.len-before.result (ident_of c.args.id.now) c.in_ok-node.node c.in_ok-instance.field-0 c.args.world
    (error_model c.in_err-check_more.field-0.0) c.in_ok-node.ensures.ok c.in_ok-instance.ensures.ok c.in_ok-spread_from.ensures c.len-before.ensures.len c.in_err-check_more.ensures.same c.in_err-check_more.ensures.err))

pub returns-clause-ok : goal.returns-clause-ok
returns-clause-ok c =
    spread_goes c.args.state.now.graph c.spread_from.new.state.graph c.args.root.now c.args.given.now.entries c.spread_from.new.given.entries c.len-before.result (ident_of c.args.id.now) c.in_ok-node.node c.in_ok-instance.field-0 c.args.world
    c.in_ok-node.ensures.ok c.in_ok-instance.ensures.ok c.in_ok-spread_from.ensures c.len-before.ensures.len c.in_ok-check_more.ensures.ok
