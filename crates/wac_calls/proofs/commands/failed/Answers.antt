use Rattle.std.proofs.Common.{subst}
use Rattle.wac_calls.specs.Commands.{Fails}
use Rattle.wac_calls.proofs.commands.failed.Goals as goal

pub returns-in-Refused : goal.returns-in-Refused
returns-in-Refused c = λ command source fails. subst (λ e. Fails command source e) c.in-Refused.is fails

pub returns-in-NotUtf8 : goal.returns-in-NotUtf8
returns-in-NotUtf8 c = λ command source fails. subst (λ e. Fails command source e) c.in-NotUtf8.is fails
