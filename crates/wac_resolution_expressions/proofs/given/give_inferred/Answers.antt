use Rattle.wac_resolution_expressions.proofs.Common.{◌∙◌, Some, sym, ap, inl, err_from_is_err_and, on_ok_weaker, by_name, ident_of, reports, if_reports}
use Rattle.wac_resolution_expressions.proofs.GivingNodes.{inferred_goes, inferred_breaks}
use Rattle.wac_resolution_expressions.proofs.given.give_inferred.Goals as goal

pub returns-in_err-node-clause-err : goal.returns-in_err-node-clause-err
returns-in_err-node-clause-err c =
    let p = err_from_is_err_and c.from_residual.result c.from_residual.ensures.1 in
    rw (p.1, p.2) (reports c.in_err-node.ensures.err (λ err numbering s rest. inl err))

pub returns-clause-ok : goal.returns-clause-ok
returns-clause-ok c =
    on_ok_weaker c.give.result
    (inferred_goes c.args.state.now.graph c.args.root.now c.args.world (ident_of c.args.id.now) c.in_ok-node.node c.as_str.result.now (by_name c.args.given.now.entries) (by_name c.give.new.given.entries) c.requires.agrees c.in_ok-node.ensures.ok
    (λ numbering declared. c.in_ok-import.ensures numbering declared ∙ ap Some (sym c.as_str.ensures.value)) c.requires.there)
    c.give.ensures.ok

pub returns-clause-err : goal.returns-clause-err
returns-clause-err c =
    if_reports _ _
    (λ r. inferred_breaks c.args.state.now.graph c.args.root.now c.args.world (ident_of c.args.id.now) c.in_ok-node.node c.as_str.result.now (by_name c.args.given.now.entries) r c.in_ok-node.ensures.ok
    (λ numbering declared. c.in_ok-import.ensures numbering declared ∙ ap Some (sym c.as_str.ensures.value)))
    c.give.result c.give.ensures.err
