use Rattle.wac_tool_graphs.proofs.Common.{refl, sym}
use Rattle.wac_tool_graphs.proofs.Forms.{kinds_reduce}
use Rattle.wac_tool_graphs.proofs.comparing.add_kinds.Goals as goal

pub returns-in_ok-add-in-Some-Some-2 : goal.returns-in_ok-add-in-Some-Some-2
returns-in_ok-add-in-Some-Some-2 c = rw (c.in-Some-Some.is-0, c.in-Some-Some.is-1) (kinds_reduce c.in-Some-Some.a c.in-Some-Some.b c.in-Some-Some-2.first c.in-Some-Some-2.second _ _ (c.if-not-same_form.ensures.0 refl) (sym c.in-Some-Some-2.ensures) (sym c.in-Some-Some-2.ensures') c.in_ok-add-in-Some-Some-2.ensures)
