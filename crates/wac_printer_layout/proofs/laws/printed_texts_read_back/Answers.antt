use Rattle.wac_printer_layout.proofs.TreesBack.{reads_back}
use Rattle.wac_printer_layout.proofs.laws.printed_texts_read_back.Goals as goal

pub returns : goal.returns
returns c = reads_back
