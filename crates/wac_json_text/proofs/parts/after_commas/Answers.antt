use Rattle.wac_json_text.proofs.Common.{◌≡◌, rules, Err, ◌≤◌, length, starts, goes_at, stops_at, ends}
use Rattle.wac_json_text.specs.Pieces.{pieces, after_comma}
use Rattle.wac_json_text.proofs.parts.after_commas.Goals as goal

pub loop-item-init : goal.loop-item-init
loop-item-init g c = starts _ _ _ _ _ c.in_ok-ready.ensures

pub returns-in_err-after_comma : goal.returns-in_err-after_comma
returns-in_err-after_comma g c =
    let e : c.from_residual-in_err-after_comma.result ≡ Err c.in_err-after_comma.field-0.0 = search rules in
    stops_at (λ source depth x. after_comma (pieces (g.T.Json.form x))) c.args.items.now _ _ c.args.out.now _ _ _ _ c.loop-item.invariant c.loop-item-test.true c.item-item.is e c.in_err-after_comma.ensures

pub loop-item-preserved : goal.loop-item-preserved
loop-item-preserved g c =
    goes_at (λ source depth x. after_comma (pieces (g.T.Json.form x))) c.args.items.now _ _ c.args.out.now c.loop-item.out c.after_comma.new.out c.in_ok-after_comma.field-0 c.loop-item.invariant c.loop-item-test.true c.item-item.is c.in_ok-after_comma.ensures

pub returns : goal.returns
returns g c =
    let h : length c.args.items.now ≤ c.loop-item.item-index = search rules in
    ends (λ source depth x. after_comma (pieces (g.T.Json.form x))) c.args.items.now _ c.args.out.now _ _ c.loop-item.invariant h
