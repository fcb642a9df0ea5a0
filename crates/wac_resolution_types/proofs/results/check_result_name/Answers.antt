use Rattle.wac_resolution_types.proofs.Common.{inr, ◌≡◌, Some, sym, rules, by_name, look_up}
use Rattle.wac_resolution_types.specs.Funcs.{given}
use Rattle.wac_resolution_types.proofs.NamedParts.{repeated}
use Rattle.wac_resolution_types.proofs.results.check_result_name.Goals as goal

pub returns-in_ok-from_str-in-Some-clause-err : goal.returns-in_ok-from_str-in-Some-clause-err
returns-in_ok-from_str-in-Some-clause-err c = inr (λ numbering g.
    let found : look_up c.args.id.now.string.now (by_name c.args.all.now.entries) ≡ Some c.in-Some.field-0 = sym c.in-Some.ensures in
    let there = repeated given (by_name c.args.all.now.entries) c.args.id.now.string.now c.in-Some.field-0 found numbering g in
    (there.0, there.1, search rules))
