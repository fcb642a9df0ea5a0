use Rattle.std.proofs.Common.{refl}
use Rattle.wac_graph_types.specs.Meaning.{meaning}
use Rattle.wac_graph_types.specs.Equality.{meaning_discrete, equal_or-equal, equal_or-unequal}
use Rattle.wac_tool_graphs.proofs.rules.SameRulesRules.subtype.Goals as goal

pub returns-then-same : goal.returns-then-same
returns-then-same c = λ o one. equal_or-equal _ (meaning_discrete (meaning o c.args.types.now c.args.a) (meaning o c.args.types.now c.args.b)) ((c.if-same.ensures o one).0 refl)

pub returns-else-same : goal.returns-else-same
returns-else-same c = λ o one. equal_or-unequal _ (meaning_discrete (meaning o c.args.types.now c.args.a) (meaning o c.args.types.now c.args.b)) (λ e. let f = (c.if-same.ensures o one).1 e in cc)
