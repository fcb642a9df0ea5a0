use Rattle.std.proofs.Common.{sym}
use Rattle.wac_first_error.proofs.Broken.{breaks, composes}
use Rattle.wac_first_error.proofs.rules.broken_rule.Goals as goal

pub returns-in-Ok-clause-composes : goal.returns-in-Ok-clause-composes
returns-in-Ok-clause-composes c =
    rw (sym c.page.view_is) (composes c.new.result.entries c.page.inside.document.now c.in-Ok.field-0 c.new.ensures.empty c.in-Ok.ensures)

pub returns-clause-breaks : goal.returns-clause-breaks
returns-clause-breaks c =
    rw (sym c.page.view_is) (breaks c.new.result.entries c.page.inside.document.now c.in-Err.error c.new.ensures.empty c.in-Err.ensures)
