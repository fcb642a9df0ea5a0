use Rattle.wac_resolution.proofs.Common.{ap, subst, ◌∙◌, rules, OnOk, argument_of, primary_expr_of, argument_mentions, primary_mentions}
use Rattle.std.proofs.Common.{sym}
use Rattle.wac_ast_grammar.specs.Tree.{PrimaryExpr}
use Rattle.wac_resolution.specs.Noted.{Notes}
use Rattle.wac_resolution.proofs.Arguments.{in_a_row, new_is}
use Rattle.wac_resolution.proofs.Noting.{all}
use Rattle.wac_resolution.proofs.mentions_in_expressions.+expression.Goals as goal

pub primary-returns-in-New : goal.primary-returns-in-New
primary-returns-in-New t c =
    subst (λ (x : PrimaryExpr). OnOk c.instantiation.result (Notes c.args.mentions.now c.instantiation.new.mentions (primary_mentions c.args.mentions.now.own x))) (sym (ap primary_expr_of c.in-New.is ∙ new_is c.in-New.new)) c.instantiation.ensures

pub arguments-returns : goal.arguments-returns
arguments-returns t c =
    let noted = all argument_of argument_mentions c.args.arguments.now c.loop-one.one-index c.args.mentions.now c.loop-one.mentions (search rules) c.loop-one.invariant in
    subst (Notes c.args.mentions.now c.loop-one.mentions) (sym (in_a_row c.args.mentions.now.own c.args.arguments.now)) noted
