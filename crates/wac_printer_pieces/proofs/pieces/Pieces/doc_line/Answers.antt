use Rattle.wac_printer_pieces.proofs.Sequence.{after, first, last, printed_at}
use Rattle.wac_printer_pieces.proofs.Common.{doc, [], ◌∷◌}
use Rattle.wac_printer_pieces.proofs.pieces.Pieces.doc_line.Goals as goal

pub returns : goal.returns
returns g c = last c.and-2.ensures (after c.and.ensures (first c.line.ensures) (printed_at (λ xs. doc xs ∷ []) c.trim.ensures.trim c.doc.ensures)) c.blank.ensures
