use Rattle.wac_printer_pieces.proofs.Common.{refl}
use Rattle.wac_printer_pieces.proofs.Printing.{refused}
use Rattle.wac_printer_pieces.proofs.pieces.Pieces.ready.Goals as goal

pub returns-then-self : goal.returns-then-self
returns-then-self g c = refused _ _ _ _ c.self.view_is refl c.if-self.true
