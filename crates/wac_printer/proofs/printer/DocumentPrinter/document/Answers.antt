use Rattle.wac_printer.proofs.Common.{document_of}
use Rattle.wac_printer.proofs.printer.DocumentPrinter.document.Goals as goal

pub returns-clause-reads_back : goal.returns-clause-reads_back
returns-clause-reads_back g c = c.printed_documents_read_back.ensures c.args.self.now c.page.new.self c.page.result (document_of c.args.document.now) c.page.ensures
