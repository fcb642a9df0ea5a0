use Rattle.wac_resolution_worlds.proofs.Common.{inr, sym, rules, by_name}
use Rattle.wac_resolution_worlds.proofs.Found.{new_name}
use Rattle.wac_resolution_worlds.proofs.Read.{second_entry}
use Rattle.wac_resolution_worlds.proofs.include_clause.check_entry.Goals as goal

pub returns-in_ok-from_str-in-Some-clause-err : goal.returns-in_ok-from_str-in-Some-clause-err
returns-in_ok-from_str-in-Some-clause-err c = inr (λ before.
    (new_name c.in-Some.field-0, second_entry (by_name c.args.all.now.entries) c.args.item.now.from.string.now c.in-Some.field-0 (sym c.in-Some.ensures), search rules))
