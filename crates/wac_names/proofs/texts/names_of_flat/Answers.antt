use Rattle.wac_ast.specs.Statements.{document_of}
use Rattle.wac_names.proofs.OfText.{of_document, of_none}
use Rattle.wac_names.proofs.texts.names_of_flat.Goals as goal

pub returns-in-Ok-clause-names : goal.returns-in-Ok-clause-names
returns-in-Ok-clause-names c =
    of_document c.args.text.now (document_of c.in-Ok.document) c.names_in.result c.in-Ok.ensures.found c.names_in.ensures.looked_up

pub returns-in-Err-clause-names : goal.returns-in-Err-clause-names
returns-in-Err-clause-names c = of_none c.args.text.now c.in-Err.error c.no_names.result c.in-Err.ensures.only c.no_names.ensures
