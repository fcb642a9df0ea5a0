use Rattle.wac_resolution_worlds.proofs.Common.{List, map, ap, subst, arith, err_from_is_err_and, take_all, length-map, WorldInclude, world_item_of, error_model, includes_of, values_of, reports, items_expanded, lists_of}
use Rattle.wac_resolution_worlds.specs.WorldItems.{IncludeSteps}
use Rattle.wac_resolution_worlds.proofs.Including.{none_include, includes_step, includes_break}
use Rattle.wac_resolution_worlds.proofs.includes.includes.Goals as goal

pub loop-item-init : goal.loop-item-init
loop-item-init c = none_include c.args.outer.now.context.now c.args.state.now.graph (values_of c.args.outer.now.root.now) (lists_of c.args.body.now) c.requires.supplied c.requires.body

pub include_item-requires-clause-body : goal.include_item-requires-clause-body
include_item-requires-clause-body c = c.loop-item.invariant.named

pub include_item-requires-clause-root : goal.include_item-requires-clause-root
include_item-requires-clause-root c = items_expanded c.args.state.now.graph c.loop-item.state.graph (values_of c.args.outer.now.root.now) c.loop-item.invariant.grows c.requires.root

pub include_item-requires-clause-supplied : goal.include_item-requires-clause-supplied
include_item-requires-clause-supplied c = c.loop-item.invariant.supplied

pub returns-in_err-include_item-clause-err : goal.returns-in_err-include_item-clause-err
returns-in_err-include_item-clause-err c =
    let p = err_from_is_err_and c.from_residual.result c.from_residual.ensures.1 in
    rw (p.1, p.2) (reports c.in_err-include_item.ensures.err (includes_break world_item_of c.args.outer.now.context.now c.args.state.now.graph c.loop-item.state.graph (values_of c.args.outer.now.root.now) c.args.world.now (lists_of c.args.body.now) (lists_of c.loop-item.body) c.args.items.now c.loop-item.item-index c.item-item.result (error_model c.in_err-include_item.field-0.0)
    c.loop-item-test.true c.item-item.is c.requires.root c.loop-item.invariant))

pub loop-item-preserved : goal.loop-item-preserved
loop-item-preserved c =
    includes_step world_item_of c.args.outer.now.context.now c.args.state.now.graph c.loop-item.state.graph c.include_item.new.state.graph (values_of c.args.outer.now.root.now) (lists_of c.args.body.now) (lists_of c.loop-item.body) (lists_of c.include_item.new.body) c.args.items.now c.loop-item.item-index c.item-item.result
    c.loop-item-test.true c.item-item.is c.requires.root c.loop-item.invariant c.in_ok-include_item.ensures.ok

pub returns-clause-ok : goal.returns-clause-ok
returns-clause-ok c =
    subst (λ (l : List WorldInclude). IncludeSteps c.args.outer.now.context.now c.args.state.now.graph c.loop-item.state.graph (values_of c.args.outer.now.root.now) (lists_of c.args.body.now) (lists_of c.loop-item.body) l)
    (ap includes_of (take_all c.loop-item.item-index (map world_item_of c.args.items.now) (omega (arith, length-map c.args.items.now world_item_of)))) c.loop-item.invariant
