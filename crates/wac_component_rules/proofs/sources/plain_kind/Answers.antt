use Rattle.std.proofs.Common.{sym, subst}
use Rattle.wac_component_rules.proofs.Aliases.{IsWhole, whole_kind}
use Rattle.wac_component_rules.proofs.sources.plain_kind.Goals as goal

pub returns-in-Func-clause-kind : goal.returns-in-Func-clause-kind
returns-in-Func-clause-kind c = λ o. whole_kind o c.args.entries.now c.args.kind c.requires.table c.requires.named (subst IsWhole (sym c.in-Func.is) tt)

pub returns-in-Instance-clause-kind : goal.returns-in-Instance-clause-kind
returns-in-Instance-clause-kind c = λ o. whole_kind o c.args.entries.now c.args.kind c.requires.table c.requires.named (subst IsWhole (sym c.in-Instance.is) tt)

pub returns-in-Component-clause-kind : goal.returns-in-Component-clause-kind
returns-in-Component-clause-kind c = λ o. whole_kind o c.args.entries.now c.args.kind c.requires.table c.requires.named (subst IsWhole (sym c.in-Component.is) tt)
