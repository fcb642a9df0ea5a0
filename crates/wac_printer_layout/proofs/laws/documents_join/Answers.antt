use Rattle.wac_printer_layout.proofs.Common.{[]}
use Rattle.wac_printer_layout.proofs.StatementsJoin.{document_join, statement_join}
use Rattle.wac_printer_layout.proofs.laws.documents_join.Goals as goal

pub returns-clause-document : goal.returns-clause-document
returns-clause-document c = λ space fresh depth document is. document_join space depth document [] fresh is

pub returns-clause-statement : goal.returns-clause-statement
returns-clause-statement c = λ rest space fresh depth statement is. statement_join space depth statement rest fresh is
