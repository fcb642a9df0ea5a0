use Rattle.wac_json.proofs.Common.{◌∙◌, ◌≤◌, ap, codes, length, map, rules, sym, take_all, array, argument_of, primary_expr_of, variant, arguments_items}
use Rattle.wac_json_forms.specs.Forms.{argument_json, named_argument_json, primary_expr_json}
use Rattle.serde_json.specs.View.{items_of}
use Rattle.wac_ast_statements.proofs.ExprViews.{new_is}
use Rattle.wac_json.proofs.Forms.{formed_as, items_are}
use Rattle.wac_json.proofs.expr.+expressions.Goals as goal

pub PrimaryExprToValue::to_value-returns-in_ok-to_value-in-New-clause-formed :
    goal.PrimaryExprToValue::to_value-returns-in_ok-to_value-in-New-clause-formed
unfolding primary_expr_json
PrimaryExprToValue::to_value-returns-in_ok-to_value-in-New-clause-formed t c =
    formed_as _ _ (primary_expr_json (primary_expr_of c.args.self.now))
    (ap (variant (codes "new")) c.in_ok-to_value-in-New.ensures.formed
    ∙ sym (ap primary_expr_json (ap primary_expr_of c.in-New.is ∙ new_is c.in-New.expr)))
    c.variant.ensures.holds

pub InstantiationArgumentToValue::to_value-returns-in_ok-to_value-in-Named-clause-formed :
    goal.InstantiationArgumentToValue::to_value-returns-in_ok-to_value-in-Named-clause-formed
unfolding argument_json named_argument_json
InstantiationArgumentToValue::to_value-returns-in_ok-to_value-in-Named-clause-formed t c =
    formed_as _ _ (argument_json (argument_of c.args.self.now))
    (ap (variant (codes "named")) c.in_ok-to_value-in-Named.ensures.formed
    ∙ sym (ap (λ x. argument_json (argument_of x)) c.in-Named.is))
    c.variant.ensures.holds

pub arguments_value-returns-clause-formed : goal.arguments_value-returns-clause-formed
arguments_value-returns-clause-formed t c =
    let h : length c.args.arguments.now.items ≤ c.loop-argument.argument-index = search rules in
    c.into_value.ensures.holds
    ∙ ap (λ ds. array (items_of ds)) (c.loop-argument.invariant ∙ ap (map (λ x. argument_json (argument_of x))) (take_all _ _ h))
    ∙ ap array (items_are _ _ ∙ arguments_items argument_of _)
