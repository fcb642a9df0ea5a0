use Rattle.wac_printer_layout.proofs.TreesBack.{fixed_again}
use Rattle.wac_printer_layout.proofs.laws.printed_texts_stay.Goals as goal

pub returns : goal.returns
returns c = fixed_again
