use Rattle.wac_printer_pieces.proofs.Common.{sym, ap, ◌≡◌, ◌∙◌, length, ◌-◌, Some, slice_get}
use Rattle.wac_printer_pieces.proofs.Printing.{fresh_after-get}
use Rattle.wac_printer_pieces.proofs.pieces.is_fresh_after.Goals as goal

pub returns-in-Some : goal.returns-in-Some
returns-in-Some c =
    let e : slice_get c.args.text.now (length c.args.text.now - 1) ≡ Some c.in-Some.byte.now = ap (λ t. slice_get t (length t - 1)) (sym c.as_bytes.ensures.value) ∙ sym c.in-Some.ensures.value in
    fresh_after-get c.args.fresh c.args.text.now c.in-Some.byte.now e
