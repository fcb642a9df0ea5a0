use Rattle.wac_tool.proofs.Common.{rules, document_of}
use Rattle.wac_tool.proofs.Printing.{began}
use Rattle.wac_tool.proofs.running.print.Goals as goal

pub returns-clause-began : goal.returns-clause-began
returns-clause-began g c =
    began c.new-printer.result c.page-result.new.self c.page-result.result (document_of c.args.page) _ _ _ c.args.source.now _ c.new-printer.ensures c.page-result.ensures (search rules)
