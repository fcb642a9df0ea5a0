use Rattle.wac_recovery.specs.Attempts.{whole}
use Rattle.wac_recovery.specs.Recovered.{left_of}
use Rattle.wac_recovery.proofs.Rounds.{most, none_found}
use Rattle.wac_recovery.proofs.recovery.recover.Goals as goal

pub returns-in-Ok-clause-none : goal.returns-in-Ok-clause-none
returns-in-Ok-clause-none c = none_found c.args.limit c.args.source.now c.in-Ok.recovery.faults.items (left_of c.in-Ok.recovery) c.in-Ok.ensures

pub returns-in-Ok-clause-most : goal.returns-in-Ok-clause-most
returns-in-Ok-clause-most c = most c.args.limit (whole c.args.source.now) c.in-Ok.recovery.faults.items (left_of c.in-Ok.recovery) c.in-Ok.ensures
