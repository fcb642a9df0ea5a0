use Rattle.wac_ast.specs.Statements.{document_of}
use Rattle.wac_calls.proofs.Graphing.{on_err, on_ok}
use Rattle.wac_calls.proofs.graphs.graph_json.Goals as goal

pub returns-in-Ok-clause-document : goal.returns-in-Ok-clause-document
returns-in-Ok-clause-document c = on_ok c.shown.result (document_of c.in-Ok.document, c.in-Ok.ensures.found)

pub returns-in-Ok-clause-error : goal.returns-in-Ok-clause-error
returns-in-Ok-clause-error c = on_err c.args.source.now c.shown.result (document_of c.in-Ok.document, c.in-Ok.ensures.found) c.shown.ensures
