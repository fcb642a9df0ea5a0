use Rattle.wac_resolution_worlds.proofs.Common.{map, arith, err_from_is_err_and, take_all, length-map, by_name, world_include_item_of, error_model, IsSecondEntry, reports}
use Rattle.wac_resolution_worlds.proofs.Read.{read_step, read_break, all_read}
use Rattle.wac_resolution_worlds.proofs.include_clause.entries.Goals as goal

pub returns-in_err-entry-clause-err : goal.returns-in_err-entry-clause-err
returns-in_err-entry-clause-err c =
    let p = err_from_is_err_and c.from_residual.result c.from_residual.ensures.1 in
    rw (p.1, p.2) (reports c.in_err-entry.ensures.err (λ err. read_break c.args.items.now c.loop-item.item-index c.item-item.result (by_name c.loop-item.all.entries) (IsSecondEntry (error_model c.in_err-entry.field-0.0))
    c.loop-item-test.true c.item-item.is err c.loop-item.invariant))

pub loop-item-preserved : goal.loop-item-preserved
loop-item-preserved c =
    read_step c.args.items.now c.loop-item.item-index _ (by_name c.loop-item.all.entries) (by_name c.entry.new.all.entries)
    c.loop-item-test.true c.item-item.is c.in_ok-entry.ensures.ok c.in_ok-entry.ensures.added c.loop-item.invariant

pub returns-clause-ok : goal.returns-clause-ok
returns-clause-ok c =
    all_read c.args.items.now c.loop-item.item-index (by_name c.loop-item.all.entries)
    (take_all c.loop-item.item-index (map world_include_item_of c.args.items.now) (omega (arith, length-map c.args.items.now world_include_item_of)))
    (take_all c.loop-item.item-index c.args.items.now (omega arith)) c.loop-item.invariant
