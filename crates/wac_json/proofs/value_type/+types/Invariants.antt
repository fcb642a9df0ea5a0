use Rattle.wac_json.proofs.Common.{◌≡◌, map, take, view, ty_of}
use Rattle.wac_json_forms.specs.Forms.{ty_json}
use Rattle.wac_json.proofs.value_type.+types.Given as goal

abbrev pub invariant-types_value-loop-ty : goal.invariant-types_value-loop-ty
invariant-types_value-loop-ty l = map view l.values.items.items ≡ map (λ x. ty_json (ty_of x)) (take l.ty-index l.types.items)
