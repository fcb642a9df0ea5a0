use Rattle.wac_ast_base.proofs.Common.{◌≡◌, ◌<◌, ◌++◌, ◌∷◌, [], map, length, refl, arith, map_push, left}
use Rattle.wac_ast_base.proofs.Exits.{same_error, tested}
use Rattle.wac_ast_base.proofs.Lists.{body_list, body_item_is_some, item_less, item_fails, list_goes_on, list_closed, so_far_fails, made_fails}
use Rattle.wac_ast_base.proofs.delimited.parse_each.Goals as goal

pub returns-in_err-parse_item-clause-gives : goal.returns-in_err-parse_item-clause-gives
returns-in_err-parse_item-clause-gives g c =
    made_fails _ _ _ _ _ _ _ c.from_residual.ensures.1 (so_far_fails _ c.loop-alloc.invariant (item_fails _ _ _ (body_list g.T.Parse.symbol c.requires.repeated) (tested c.at.ensures c.loop-alloc-test.true) (same_error _ _ _ c.in_err-parse_item.ensures.gives)))

pub loop-alloc-smaller : goal.loop-alloc-smaller
loop-alloc-smaller g c =
    let less : length (left c.parse_item.new.lexer) < length (left c.loop-alloc.lexer) = item_less g.T.Parse.symbol _ _ _ _ c.in_ok-parse_item.ensures.gives.0 (body_item_is_some _ c.requires.repeated) in
    less

pub loop-alloc-preserved : goal.loop-alloc-preserved
loop-alloc-preserved g c =
    let item = c.in_ok-parse_item.ensures in
    let more : map g.T.Parse.tree c.push.new.items.items ≡ map g.T.Parse.tree c.loop-alloc.items.items ++ g.T.Parse.tree c.in_ok-parse_item.field-0 ∷ [] = rw c.in_ok-push.ensures.items (map_push _ c.loop-alloc.items.items c.in_ok-parse_item.field-0) in
    rw more (list_goes_on c.parse_item.new.lexer (body_list g.T.Parse.symbol c.requires.repeated) c.loop-alloc.invariant (tested c.at.ensures c.loop-alloc-test.true) item.gives item.source item.moves (refl, refl) refl (omega arith))

pub returns-clause-gives : goal.returns-clause-gives
returns-clause-gives g c = list_closed (body_list g.T.Parse.symbol c.requires.repeated) refl c.loop-alloc.invariant (tested c.at.ensures c.loop-alloc-test.false)
