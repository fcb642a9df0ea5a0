use Rattle.wac_json_text.proofs.Common.{IsSoFar}
use Rattle.wac_json_text.specs.Pieces.{pieces, after_comma}
use Rattle.wac_json_text.proofs.parts.after_commas.Given as goal

abbrev pub invariant-loop-item : goal.invariant-loop-item
invariant-loop-item g l = IsSoFar (λ source depth x. after_comma (pieces (g.T.Json.form x))) l.items l.item-index l.fn.out l.out
