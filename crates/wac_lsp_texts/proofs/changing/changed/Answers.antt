use Rattle.std.proofs.Common.{◌<◌, length, arith}
use Rattle.std.specs.Prelude.{string_bytes}
use Rattle.wac_lsp_texts.proofs.Following.{one_more_change}
use Rattle.wac_lsp_texts.proofs.changing.changed.Goals as goal

pub loop-change-preserved : goal.loop-change-preserved
loop-change-preserved c =
    let change = c.change-item.result in
    let next = string_bytes c.in_ok-after.after.text in
    let within : c.loop-change.change-index < length c.args.changes.now = omega (arith, c.loop-change-test.true) in
    record {
      follows = one_more_change c.args.unit c.args.text.now c.args.changes.now c.loop-change.change-index (string_bytes c.loop-change.after.text) next change c.loop-change.invariant.follows within c.change-item.is c.in_ok-after.ensures.changes;
      starts = c.in_ok-after.ensures.starts;
    }
