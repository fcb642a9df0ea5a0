use Rattle.wac_resolution_types.proofs.Common.{◌≡◌, Some, inr, sym, rules, look_up, means, places_of}
use Rattle.wac_resolution_types.proofs.Found.{placed, unplaced}
use Rattle.wac_resolution_types.proofs.Lists.{bound_stands}
use Rattle.wac_resolution_types.proofs.new_name.check_name.Goals as goal

pub returns-in_ok-from_str-in-Some-clause-err : goal.returns-in_ok-from_str-in-Some-clause-err
returns-in_ok-from_str-in-Some-clause-err c = inr (λ numbering g.
    let found : look_up c.args.id.now.string.now (places_of c.args.names.now) ≡ Some c.in-Some.previous = sym c.in-Some.ensures in
    let there = placed c.args.id.now.string.now c.args.names.now c.in-Some.previous found in
    (means numbering g there.0, c.in-Some.previous, bound_stands numbering g c.args.names.now c.args.id.now.string.now there.0 there.1, found, search rules))

pub returns-in-None-clause-ok : goal.returns-in-None-clause-ok
returns-in-None-clause-ok c = unplaced c.args.id.now.string.now c.args.names.now (sym c.in-None.ensures)
