use Rattle.wac_ast_base.proofs.Common.{◌≡◌, ◌<◌, ◌++◌, ◌∷◌, [], map, length, arith, map_push, left}
use Rattle.wac_ast_base.proofs.Exits.{same_error, tested}
use Rattle.wac_ast_base.proofs.Lists.{comma_list, closes_plain, item_is_some, item_less, item_fails, list_goes_on, list_closed, so_far_fails, step_fails, made_fails}
use Rattle.wac_ast_base.proofs.delimited.parse_items.Goals as goal

pub returns-in_err-parse_item-clause-gives : goal.returns-in_err-parse_item-clause-gives
returns-in_err-parse_item-clause-gives g c =
    let list = (comma_list g.T.Parse.symbol c.args.until c.requires.listed).is_list in
    let told = c.in_err-parse_item.ensures.gives in
    made_fails _ _ _ _ _ _ _ c.from_residual.ensures.1 (so_far_fails _ c.loop-alloc.invariant (item_fails _ _ _ list (tested c.at.ensures c.loop-alloc-test.true) (same_error _ _ _ told)))

pub loop-alloc-smaller : goal.loop-alloc-smaller
loop-alloc-smaller g c =
    let less : length (left c.parse_item.new.lexer) < length (left c.loop-alloc.lexer) = item_less g.T.Parse.symbol _ _ _ _ c.in_ok-parse_item.ensures.gives.0 (item_is_some _ _ c.requires.listed) in
    let rest = c.in_ok-take_comma.ensures.rest in
    omega arith

pub loop-alloc-preserved : goal.loop-alloc-preserved
loop-alloc-preserved g c =
    let list = (comma_list g.T.Parse.symbol c.args.until c.requires.listed).is_list in
    let item = c.in_ok-parse_item.ensures in
    let comma = c.in_ok-take_comma.ensures in
    let more : map g.T.Parse.tree c.push.new.items.items ≡ map g.T.Parse.tree c.loop-alloc.items.items ++ g.T.Parse.tree c.in_ok-parse_item.field-0 ∷ [] = rw c.in_ok-push.ensures.items (map_push _ c.loop-alloc.items.items c.in_ok-parse_item.field-0) in
    rw more (list_goes_on c.parse_item.new.lexer list c.loop-alloc.invariant (tested c.at.ensures c.loop-alloc-test.true) item.gives item.source item.moves (comma.gives g.T.Parse.symbol c.requires.listed c.requires.begins) comma.source comma.moves)

pub returns-in_err-take_comma-clause-gives : goal.returns-in_err-take_comma-clause-gives
returns-in_err-take_comma-clause-gives g c =
    let list = (comma_list g.T.Parse.symbol c.args.until c.requires.listed).is_list in
    made_fails _ _ _ _ _ _ _ c.from_residual-in_err-take_comma.ensures.1 (so_far_fails _ c.loop-alloc.invariant (step_fails _ _ _ list (tested c.at.ensures c.loop-alloc-test.true) c.in_ok-parse_item.ensures.gives (c.in_err-take_comma.ensures.gives g.T.Parse.symbol c.requires.listed c.requires.begins)))

pub returns-clause-gives : goal.returns-clause-gives
returns-clause-gives g c = list_closed (comma_list g.T.Parse.symbol c.args.until c.requires.listed).is_list (closes_plain _ _ c.requires.listed) c.loop-alloc.invariant (tested c.at.ensures c.loop-alloc-test.false)
