use Rattle.wac_json.proofs.Common.{◌∙◌, ◌≤◌, ap, codes, length, map, rules, sym, take_all, array, ty_of, pair, span_json, variant, types_items}
use Rattle.wac_json_forms.specs.Forms.{ty_json}
use Rattle.serde_json.specs.View.{items_of}
use Rattle.wac_ast_types.proofs.TypeParts.{tuple_is}
use Rattle.wac_json.proofs.Forms.{formed_as, items_are}
use Rattle.wac_json.proofs.value_type.+types.Goals as goal

pub TypeToValue::to_value-returns-in_ok-types_value-in-Tuple-clause-formed :
    goal.TypeToValue::to_value-returns-in_ok-types_value-in-Tuple-clause-formed
unfolding ty_json
TypeToValue::to_value-returns-in_ok-types_value-in-Tuple-clause-formed t c =
    formed_as _ _ (ty_json (ty_of c.args.self.now))
    (ap (λ d. variant (codes "tuple") (pair d (span_json c.in-Tuple.span))) c.in_ok-types_value-in-Tuple.ensures.formed
    ∙ sym (ap ty_json (ap ty_of c.in-Tuple.is ∙ tuple_is c.in-Tuple.types c.in-Tuple.span)))
    c.with_span.ensures.formed

pub types_value-returns-clause-formed : goal.types_value-returns-clause-formed
types_value-returns-clause-formed t c =
    let h : length c.args.types.now.items ≤ c.loop-ty.ty-index = search rules in
    c.into_value.ensures.holds
    ∙ ap (λ ds. array (items_of ds)) (c.loop-ty.invariant ∙ ap (map (λ x. ty_json (ty_of x))) (take_all _ _ h))
    ∙ ap array (items_are _ _ ∙ types_items ty_of _)
