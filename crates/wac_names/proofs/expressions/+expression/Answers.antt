use Rattle.std.proofs.Common.{ap, sym, subst, ◌∙◌}
use Rattle.wac_ast_grammar.specs.Tree.{PrimaryExpr}
use Rattle.wac_ast_statements.specs.Expressions.{argument_of, primary_expr_of}
use Rattle.wac_names.specs.Steps.{argument_steps, primary_steps}
use Rattle.wac_names.specs.Traced.{Takes}
use Rattle.wac_names.proofs.Arguments.{in_a_row, new_is}
use Rattle.wac_names.proofs.Taking.{none, next, all}
use Rattle.wac_names.proofs.expressions.+expression.Goals as goal

pub primary-returns-in_ok-instantiation-in-New : goal.primary-returns-in_ok-instantiation-in-New
primary-returns-in_ok-instantiation-in-New t c =
    subst (λ (x : PrimaryExpr). Takes c.args.finder.now c.instantiation.new.finder (primary_steps x)) (sym (ap primary_expr_of c.in-New.is ∙ new_is c.in-New.new)) c.in_ok-instantiation-in-New.ensures

pub arguments-loop-one-init : goal.arguments-loop-one-init
arguments-loop-one-init t c = none c.args.finder.now

pub arguments-loop-one-preserved : goal.arguments-loop-one-preserved
arguments-loop-one-preserved t c =
    next argument_of argument_steps c.args.arguments.now c.loop-one.one-index c.one-item.result c.args.finder.now c.loop-one.finder c.argument.new.finder c.loop-one-test.true c.one-item.is c.loop-one.invariant c.in_ok-argument.ensures

pub arguments-returns : goal.arguments-returns
arguments-returns t c =
    subst (Takes c.args.finder.now c.loop-one.finder) (sym (in_a_row c.args.arguments.now))
    (all argument_of argument_steps c.args.arguments.now c.loop-one.one-index c.args.finder.now c.loop-one.finder c.loop-one-test.false c.loop-one.invariant)
