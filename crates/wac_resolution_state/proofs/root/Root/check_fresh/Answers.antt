use Rattle.wac_resolution_state.proofs.Common.{sym, rules, inr, ident_of}
use Rattle.wac_resolution_state.proofs.Roots.{bound_already}
use Rattle.wac_resolution_state.proofs.root.Root.check_fresh.Goals as goal

pub returns-in_ok-from_str-in-Some-clause-err : goal.returns-in_ok-from_str-in-Some-clause-err
returns-in_ok-from_str-in-Some-clause-err c =
    inr (bound_already c.args.self.now (ident_of c.args.id.now) c.in-Some.previous _ (sym c.in-Some.ensures) (search rules))
