use Rattle.wac_tool.proofs.Common.{inl}
use Rattle.wac_tool.specs.declared.command.Command.TheVariants.{Resolve}
use Rattle.wac_tool.proofs.GraphTexts.{has_graph, rejects_document}
use Rattle.wac_tool.proofs.NoTree.{rejects}
use Rattle.wac_tool.proofs.resolving.graph_of.Goals as goal

pub returns-in-Ok-clause-ok : goal.returns-in-Ok-clause-ok
returns-in-Ok-clause-ok c = has_graph c.args.source.now c.in-Ok.document c.new.result c.resolved.result c.in-Ok.ensures.found c.new.ensures c.resolved.ensures.ok

pub returns-in-Ok-clause-err : goal.returns-in-Ok-clause-err
returns-in-Ok-clause-err c = rejects_document c.args.source.now c.in-Ok.document c.new.result c.resolved.result c.in-Ok.ensures.found c.new.ensures c.resolved.ensures.err

pub returns-in-Err-clause-err : goal.returns-in-Err-clause-err
returns-in-Err-clause-err c = rejects Resolve c.args.source.now (λ place text h. inl h) c.in-Err.error c.refusal.result c.in-Err.ensures.only c.in-Err.ensures.error c.refusal.ensures
