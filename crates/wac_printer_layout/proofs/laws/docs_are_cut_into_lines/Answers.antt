use Rattle.wac_printer_layout.proofs.Accepted.{doc_lines_are}
use Rattle.wac_printer_layout.proofs.DocLines.{lines_again}
use Rattle.wac_printer_layout.proofs.laws.docs_are_cut_into_lines.Goals as goal

pub returns-clause-lines : goal.returns-clause-lines
returns-clause-lines c = doc_lines_are

pub returns-clause-settled : goal.returns-clause-settled
returns-clause-settled c = lines_again
