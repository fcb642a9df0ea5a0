use Rattle.wac_json.proofs.Common.{◌∙◌, ◌≤◌, ap, length, map, rules, take_all, array}
use Rattle.serde_json.specs.View.{items_of}
use Rattle.wac_json.proofs.Forms.{list_of_items}
use Rattle.wac_json.proofs.containers.VecToValue.to_value.Goals as goal

pub returns-clause-formed : goal.returns-clause-formed
returns-clause-formed g c =
    let form = g.T.ToValue.form in
    let h : length c.args.self.now.items ≤ c.loop-item.item-index = search rules in
    c.into_value.ensures.holds ∙ ap (λ ds. array (items_of ds)) (c.loop-item.invariant ∙ ap (map form) (take_all _ _ h)) ∙ list_of_items form _
