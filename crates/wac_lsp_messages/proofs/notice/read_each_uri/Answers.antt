use Rattle.wac_lsp_messages.proofs.Each.{each_begins, each_ends, each_fails, each_goes_on}
use Rattle.wac_lsp_messages.proofs.notice.read_each_uri.Goals as goal

pub loop-value-init : goal.loop-value-init
loop-value-init c = rw c.new-all.ensures.items (each_begins _ _ _)

pub loop-value-preserved : goal.loop-value-preserved
loop-value-preserved c =
    let read = rw c.in-Some.is at c.in_ok-uri.ensures in
    rw c.in_ok-push-in-Some.ensures.items
    (each_goes_on _ _ _ _ _ _ _ c.loop-value-test.true c.value-item.is read c.loop-value.invariant)

pub returns-in-None : goal.returns-in-None
returns-in-None c =
    let none = rw c.in-None.is at c.in_ok-uri.ensures in
    each_fails _ _ _ _ _ _ c.loop-value-test.true c.value-item.is none c.loop-value.invariant

pub returns : goal.returns
returns c = each_ends _ _ _ _ _ c.loop-value-test.false c.loop-value.invariant
