use Rattle.wac_json.proofs.Common.{◌≡◌, map, take, view, argument_of}
use Rattle.wac_json_forms.specs.Forms.{argument_json}
use Rattle.wac_json.proofs.expr.+expressions.Given as goal

abbrev pub invariant-arguments_value-loop-argument : goal.invariant-arguments_value-loop-argument
invariant-arguments_value-loop-argument l =
    map view l.values.items.items ≡ map (λ x. argument_json (argument_of x)) (take l.argument-index l.arguments.items)
