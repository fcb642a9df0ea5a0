use Rattle.wac_lsp_messages.proofs.Each.{each_begins, each_fails, each_goes_on, each_same_ends}
use Rattle.wac_lsp_messages.proofs.question.read_each_place.Goals as goal

pub loop-value-init : goal.loop-value-init
loop-value-init c = rw c.new-all.ensures.items (each_begins _ _ _)

pub loop-value-preserved : goal.loop-value-preserved
loop-value-preserved c =
    rw c.in_ok-push-in-Some.ensures.items
    (each_goes_on _ _ _ _ _ _ _ c.loop-value-test.true c.value-item.is c.in-Some.ensures c.loop-value.invariant)

pub returns-in-None : goal.returns-in-None
returns-in-None c = each_fails _ _ _ _ _ _ c.loop-value-test.true c.value-item.is c.in-None.ensures c.loop-value.invariant

pub returns : goal.returns
returns c = each_same_ends _ _ _ _ c.loop-value-test.false c.loop-value.invariant
