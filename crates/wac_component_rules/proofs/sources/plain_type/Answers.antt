use Rattle.std.proofs.Common.{ap, sym, subst}
use Rattle.wac_graph_types.specs.declared.kind.ItemKind.TheVariants as kinds
use Rattle.wac_component_rules.proofs.Aliases.{IsWhole, whole_kind}
use Rattle.wac_component_rules.proofs.sources.plain_type.Goals as goal

pub returns-in-Resource-clause-kind : goal.returns-in-Resource-clause-kind
returns-in-Resource-clause-kind c = λ o. whole_kind o c.args.entries.now (kinds.Ty c.args.ty) c.requires.table c.requires.named (subst IsWhole (sym (ap kinds.Ty c.in-Resource.is)) tt)

pub returns-in-Func-clause-kind : goal.returns-in-Func-clause-kind
returns-in-Func-clause-kind c = λ o. whole_kind o c.args.entries.now (kinds.Ty c.args.ty) c.requires.table c.requires.named (subst IsWhole (sym (ap kinds.Ty c.in-Func.is)) tt)

pub returns-in-Interface-clause-kind : goal.returns-in-Interface-clause-kind
returns-in-Interface-clause-kind c = λ o. whole_kind o c.args.entries.now (kinds.Ty c.args.ty) c.requires.table c.requires.named (subst IsWhole (sym (ap kinds.Ty c.in-Interface.is)) tt)

pub returns-in-World-clause-kind : goal.returns-in-World-clause-kind
returns-in-World-clause-kind c = λ o. whole_kind o c.args.entries.now (kinds.Ty c.args.ty) c.requires.table c.requires.named (subst IsWhole (sym (ap kinds.Ty c.in-World.is)) tt)
