use Rattle.std.proofs.Common.{◌∙◌, ◌≤◌, ap, length, map, rules}
use Rattle.std.proofs.lemmas.List.{take_all}
use Rattle.serde_json.specs.Data.{array}
use Rattle.serde_json.specs.View.{items_of}
use Rattle.wac_lsp.specs.Edits.{edit_data}
use Rattle.wac_lsp.proofs.formatting.edits_value.Goals as goal

pub returns : goal.returns
returns c =
    let h : length c.args.changes.now ≤ c.loop-change.change-index = search rules in
    c.from.ensures ∙ ap (λ ds. array (items_of ds)) (c.loop-change.invariant ∙ ap (map edit_data) (take_all _ _ h))
