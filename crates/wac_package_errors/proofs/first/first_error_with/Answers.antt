use Rattle.wac_ast.specs.Statements.{document_of}
use Rattle.wac_package_errors.proofs.Documents.{found_of}
use Rattle.wac_package_errors.proofs.first.first_error_with.Goals as goal

pub returns-in-Ok : goal.returns-in-Ok
returns-in-Ok c = found_of c.args.text.now (document_of c.in-Ok.document) c.judged.result c.in-Ok.ensures.found
