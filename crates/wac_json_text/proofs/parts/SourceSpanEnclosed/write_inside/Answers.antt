use Rattle.wac_json_text.proofs.Common.{[], ◌∷◌, decimal, blank, first, last, printed_at}
use Rattle.wac_printer_pieces.proofs.Sequence.{after}
use Rattle.wac_json_text.proofs.parts.SourceSpanEnclosed.write_inside.Goals as goal

pub returns : goal.returns
returns g c =
    last c.and-2.ensures (after c.and.ensures (first (printed_at (λ n. blank (decimal n) ∷ []) c.len.ensures c.number.ensures)) c.blank.ensures) (printed_at (λ n. blank (decimal n) ∷ []) c.offset.ensures c.number-2.ensures)
