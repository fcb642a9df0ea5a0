use Rattle.wac_json.proofs.Common.{◌≡◌, map, take, view}
use Rattle.wac_json.proofs.containers.VecToValue.to_value.Given as goal

abbrev pub invariant-loop-item : goal.invariant-loop-item
invariant-loop-item g l = map view l.values.items.items ≡ map g.T.ToValue.form (take l.item-index l.self.items)
