use Rattle.wac_printer_pieces.proofs.Printing.{as_token}
use Rattle.wac_printer_pieces.proofs.pieces.Pieces.token.Goals as goal

pub returns : goal.returns
returns g c = as_token _ _ _ _ c.blank.ensures
