use Rattle.wac_ast_base.proofs.Common.{Ok, refl, subst, List, Item, left}
use Rattle.std.specs.Fn.{FnOnceReturnsAtMut}
use Rattle.wac_ast_grammar.specs.Consumed.{Consumed}
use Rattle.wac_ast_base.proofs.parse.parse_optional.Goals as goal

pub returns-in-Ok-clause-derives : goal.returns-in-Ok-clause-derives
returns-in-Ok-clause-derives g c = λ s view owed.
    let gave : FnOnceReturnsAtMut g.F.FnOnce c.args.cb c.next.new.self (Ok c.in-Ok.value) c.cb.new.arg2 = record { shown = _; shows = refl; left = _; met = c.in-Ok.ensures; leaves = refl } in
    subst (λ (l : List Item). Consumed s l (left c.cb.new.arg2) (view c.in-Ok.value)) c.next.ensures.steps.rest (owed c.next.new.self c.in-Ok.value c.cb.new.arg2 gave)
