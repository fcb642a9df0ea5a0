use Rattle.wac_printer_layout.proofs.DocumentsBack.{reread}
use Rattle.wac_printer_layout.proofs.laws.documents_are_read_back.Goals as goal

pub returns : goal.returns
returns c = reread
