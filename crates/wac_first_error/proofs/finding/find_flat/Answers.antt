use Rattle.wac_ast.specs.Statements.{document_of}
use Rattle.wac_first_error.proofs.Findings.{document_found, fault_found}
use Rattle.wac_first_error.proofs.finding.find_flat.Goals as goal

pub returns-in-Ok : goal.returns-in-Ok
returns-in-Ok c =
    document_found c.args.text.now c.args.resolve (document_of c.in-Ok.document) c.find_in.result c.requires.flat c.in-Ok.ensures.found c.find_in.ensures

pub returns-in-Err : goal.returns-in-Err
returns-in-Err c = fault_found c.args.text.now c.args.resolve c.in-Err.error c.find_fault.result c.in-Err.ensures.only c.in-Err.ensures.error c.find_fault.ensures
