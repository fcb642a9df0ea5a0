use Rattle.wac_ast.specs.Statements.{document_of}
use Rattle.wac_recovery.proofs.Faulting.{fault_found}
use Rattle.wac_recovery.proofs.fault.parse_fault.Goals as goal

pub returns-in-Ok : goal.returns-in-Ok
returns-in-Ok c = (c.requires.flat, (document_of c.in-Ok._document, c.in-Ok.ensures.found))

pub returns-in-Err : goal.returns-in-Err
returns-in-Err c = fault_found c.args.text.now c.in-Err.error c.rejected.result c.requires.flat c.in-Err.ensures.only c.in-Err.ensures.error c.rejected.ensures
