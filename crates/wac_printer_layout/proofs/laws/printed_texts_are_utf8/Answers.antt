use Rattle.wac_printer_layout.proofs.Encoded.{printed_encoded}
use Rattle.wac_printer_layout.proofs.laws.printed_texts_are_utf8.Goals as goal

pub returns : goal.returns
returns c = printed_encoded
