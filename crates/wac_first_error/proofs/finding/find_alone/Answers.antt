use Rattle.wac_ast.specs.Statements.{document_of}
use Rattle.wac_first_error.proofs.Findings.{rule_found}
use Rattle.wac_first_error.proofs.finding.find_alone.Goals as goal

pub returns-in-Err : goal.returns-in-Err
returns-in-Err c =
    rule_found (document_of c.args.page) c.in-Err.error c.find_rule.result c.requires c.in-Err.ensures.breaks c.find_rule.ensures
