use Rattle.wac_ast.specs.Statements.{document_of}
use Rattle.wac_ast.proofs.Documents.{is_found, is_only, is_one, is_error}
use Rattle.wac_ast_grammar.proofs.Ordered.{is_sliced}
use Rattle.wac_ast.proofs.document.Document.parse.Goals as goal

pub returns-clause-found : goal.returns-clause-found
returns-clause-found c = is_found document_of c.args.source.now c.parse_document.result c.parse_document.ensures

pub returns-clause-only : goal.returns-clause-only
returns-clause-only c = is_only document_of c.args.source.now c.parse_document.result c.parse_document.ensures

pub returns-clause-one : goal.returns-clause-one
returns-clause-one c = is_one c.args.source.now

pub returns-clause-error : goal.returns-clause-error
returns-clause-error c = is_error document_of c.args.source.now c.parse_document.result c.parse_document.ensures

pub returns-clause-slices : goal.returns-clause-slices
returns-clause-slices c = is_sliced document_of c.args.source.now c.parse_document.result c.utf8.source (c.items_stand_in_order.ensures c.args.source.now c.utf8.source) (is_found document_of c.args.source.now c.parse_document.result c.parse_document.ensures)
