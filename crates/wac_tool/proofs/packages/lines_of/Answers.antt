use Rattle.wac_tool.specs.declared.command.Command.TheVariants.{Packages}
use Rattle.wac_tool.proofs.NoTree.{rejects}
use Rattle.wac_tool.proofs.packages.lines_of.Goals as goal

pub returns-in-Err-clause-err : goal.returns-in-Err-clause-err
returns-in-Err-clause-err c = rejects Packages c.args.source.now (λ place text h. h) c.in-Err.error c.refusal.result c.in-Err.ensures.only c.in-Err.ensures.error c.refusal.ensures
