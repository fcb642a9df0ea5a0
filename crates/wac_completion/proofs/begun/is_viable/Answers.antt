use Rattle.std.proofs.Common.{◌∙◌, ⊎_elim}
use Rattle.wac_ast.specs.Statements.{document_of}
use Rattle.wac_completion.proofs.Viability.{ends_viable_by, not_viable_by, tree_viable}
use Rattle.wac_completion.proofs.begun.is_viable.Goals as goal

pub returns-in-Ok-clause-yes : goal.returns-in-Ok-clause-yes
returns-in-Ok-clause-yes c = λ e. tree_viable c.args.text.now (document_of c.in-Ok._document) c.in-Ok.ensures.found

pub returns-in-Err-clause-yes : goal.returns-in-Err-clause-yes
returns-in-Err-clause-yes c = ends_viable_by c.args.text.now c.in-Err.error c.at_end.result c.in-Err.ensures.error c.at_end.ensures

pub returns-in-Err-clause-no : goal.returns-in-Err-clause-no
returns-in-Err-clause-no c = not_viable_by c.args.text.now c.in-Err.error c.at_end.result c.in-Err.ensures.error c.at_end.ensures
