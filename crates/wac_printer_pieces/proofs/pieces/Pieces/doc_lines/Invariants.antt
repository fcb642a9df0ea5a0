use Rattle.wac_printer_pieces.proofs.Common.{length, lines, doc_line, doc_layout}
use Rattle.wac_printer_pieces.proofs.Progress.{IsSoFar}
use Rattle.wac_printer_pieces.proofs.pieces.Pieces.doc_lines.Given as goal

abbrev pub invariant-loop-line : goal.invariant-loop-line
invariant-loop-line g l = IsSoFar (λ source depth x. doc_layout depth (doc_line x)) (lines l.text) (length l.yielded) l.fn.self l.self
