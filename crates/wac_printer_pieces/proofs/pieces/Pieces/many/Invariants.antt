use Rattle.wac_printer_pieces.proofs.Common.{◌≡◌, false}
use Rattle.wac_printer_pieces.specs.Printed.{after, spaces}
use Rattle.wac_printer_pieces.proofs.pieces.Pieces.many.Given as goal

abbrev pub invariant-space : goal.invariant-space
invariant-space g l = (l.self ≡ after (spaces l.i l.fn.self.space) l.fn.self) × (l.self.space ≡ l.fn.self.space) × (l.fn.self.failed ≡ false)
