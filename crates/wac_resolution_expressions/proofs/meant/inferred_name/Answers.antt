use Rattle.wac_resolution_expressions.proofs.Common.{◌∙◌, Some, sym, ap}
use Rattle.wac_resolution_expressions.proofs.meant.inferred_name.Goals as goal

pub returns : goal.returns
returns c numbering declared = c.inferred_import-import.ensures numbering declared ∙ ap Some (sym c.in_ok-copy.ensures.ok)
