use Rattle.wac_printer.proofs.ReadingBack.{read_back}
use Rattle.wac_printer.proofs.laws.printed_documents_read_back.Goals as goal

pub returns : goal.returns
returns c = λ old new result tree p. read_back old new result tree p
