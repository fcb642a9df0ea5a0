use Rattle.std.proofs.Common.{◌≡◌, take}
use Rattle.std.specs.Prelude.{map}
use Rattle.serde_json.specs.View.{view}
use Rattle.wac_lsp.specs.Edits.{edit_data}
use Rattle.wac_lsp.proofs.formatting.edits_value.Given as goal

abbrev pub invariant-loop-change : goal.invariant-loop-change
invariant-loop-change l = map view l.edits.items ≡ map edit_data (take l.change-index l.changes)
