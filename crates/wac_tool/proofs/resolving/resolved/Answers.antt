use Rattle.wac_tool.proofs.GraphTexts.{is_graph, is_rejected}
use Rattle.wac_tool.proofs.resolving.resolved.Goals as goal

pub returns-in-Ok-clause-ok : goal.returns-in-Ok-clause-ok
returns-in-Ok-clause-ok c =
    is_graph c.new.result.entries c.args.resolver c.in-Ok.resolution c.into_graph.result c.new.ensures.empty c.into_graph.ensures c.in-Ok.ensures

pub returns-in-Err-clause-err : goal.returns-in-Err-clause-err
returns-in-Err-clause-err c =
    is_rejected c.new.result.entries c.args.resolver c.in-Err.error c.rejection.result c.new.ensures.empty c.in-Err.ensures c.rejection.ensures
