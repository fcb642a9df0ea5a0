use Rattle.std.proofs.Common.{rules}
use Rattle.serde_json.specs.declared.value.Value.{the_lemmas}
use Rattle.wac_lsp.proofs.places.range_value.Goals as goal
use Rattle.wac_lsp.proofs.places.range_value.Goals.{in-Err-json, in-Ok-json+in-Err-json-2, in-Ok-json+in-Ok-json-2+in-Err-json-3, in-Ok-json+in-Ok-json-2+in-Ok-json-3+in-Err-json-4, in-Ok-json+in-Ok-json-2+in-Ok-json-3+in-Ok-json-4}

pub returns : goal.returns
returns c =
    elim c.match-json.branch [
      | in-Err-json w ↦ search rules
      | in-Ok-json+in-Err-json-2 w ↦ search rules
      | in-Ok-json+in-Ok-json-2+in-Err-json-3 w ↦ search rules
      | in-Ok-json+in-Ok-json-2+in-Ok-json-3+in-Err-json-4 w ↦ search rules
      | in-Ok-json+in-Ok-json-2+in-Ok-json-3+in-Ok-json-4 w ↦ search (rules, the_lemmas)
    ]
