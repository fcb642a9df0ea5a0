use Rattle.wac_calls.proofs.commands.commanded.Goals as goal

pub returns-in-Err : goal.returns-in-Err
returns-in-Err c = c.failed.ensures c.args.command c.args.source.now c.in-Err.ensures.err
