use Rattle.std.proofs.Common.{◌≡◌, ◌≤◌, ◌*◌, take}
use Rattle.wac_positions.specs.Places.{units}
use Rattle.wac_lsp_texts.proofs.Clamping.{IsBestBefore}
use Rattle.wac_lsp_texts.proofs.columns.clamped_column.Given as goal

abbrev pub invariant-loop-at : goal.invariant-loop-at
invariant-loop-at l = record {
  counted : l.count ≡ units l.unit (take l.at l.line);
  small : l.count ≤ 2 * l.at;
  best : IsBestBefore l.unit l.line l.column l.at l.clamped.column l.clamped.offset;
}
