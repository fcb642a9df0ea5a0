use Rattle.wac_json_text.proofs.Common.{◌≡◌, [], rules, Err, ap, flat_map, first_stops, first_goes, none_is}
use Rattle.wac_json_text.specs.Pieces.{pieces, after_comma, joined_pieces}
use Rattle.wac_json_text.proofs.Texts.{none_left}
use Rattle.wac_json_text.proofs.parts.joined.Goals as goal

pub returns-in_err-write-in-Some : goal.returns-in_err-write-in-Some
returns-in_err-write-in-Some g c =
    let e : c.from_residual.result ≡ Err c.in_err-write-in-Some.field-0.0 = search rules in
    first_stops _ _ _ _ _ _ _ (ap (joined_pieces (λ x. pieces (g.T.Json.form x))) c.in-Some.ensures.cases.0) e c.in_err-write-in-Some.ensures

pub returns-in-None : goal.returns-in-None
returns-in-None g c =
    let none : c.args.items.now ≡ [] = none_left c.args.items.now c.in-None.ensures.cases in
    none_is _ _ _ (ap (joined_pieces (λ x. pieces (g.T.Json.form x))) none) c.ready.ensures

pub returns-in_ok-write-in-Some : goal.returns-in_ok-write-in-Some
returns-in_ok-write-in-Some g c =
    first_goes _ _ _ _ _ _ _ (λ source depth. flat_map (λ x. after_comma (pieces (g.T.Json.form x))) c.in-Some.rest.now) (ap (joined_pieces (λ x. pieces (g.T.Json.form x))) c.in-Some.ensures.cases.0)
    c.in_ok-write-in-Some.ensures c.after_commas.ensures
