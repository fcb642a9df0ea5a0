use Rattle.wac_resolution_worlds.proofs.Common.{sym, err_from_is_err_and, world_item_of, world_include_of, values_of, lists_of, reports}
use Rattle.wac_resolution_worlds.proofs.Including.{no_include, one_include}
use Rattle.wac_resolution_worlds.proofs.includes.include_item.Goals as goal

pub returns-in_err-include-in-Some-clause-err : goal.returns-in_err-include-in-Some-clause-err
returns-in_err-include-in-Some-clause-err c =
    let p = err_from_is_err_and c.from_residual.result c.from_residual.ensures.1 in
    rw (p.1, p.2) (reports c.in_err-include-in-Some.ensures.err (λ err numbering before. (world_include_of c.in-Some.clause.now, sym c.in-Some.ensures, err numbering before)))

pub returns-in_ok-include-in-Some-clause-ok : goal.returns-in_ok-include-in-Some-clause-ok
returns-in_ok-include-in-Some-clause-ok c =
    one_include c.args.outer.now.context.now c.args.state.now.graph c.include.new.state.graph (values_of c.args.outer.now.root.now) (lists_of c.args.body.now) (lists_of c.include.new.body) (world_item_of c.args.item.now) (world_include_of c.in-Some.clause.now) (sym c.in-Some.ensures) c.in_ok-include-in-Some.ensures.ok

pub returns-in-None-clause-ok : goal.returns-in-None-clause-ok
returns-in-None-clause-ok c =
    no_include c.args.outer.now.context.now c.args.state.now.graph (values_of c.args.outer.now.root.now) (lists_of c.args.body.now) (world_item_of c.args.item.now) (sym c.in-None.ensures) c.requires.supplied c.requires.body
