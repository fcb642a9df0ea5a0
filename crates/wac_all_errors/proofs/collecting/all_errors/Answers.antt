use Rattle.wac_all_errors.proofs.Told.{told_from}
use Rattle.wac_all_errors.proofs.collecting.all_errors.Goals as goal

pub returns-in-Ok-Rejected-clause-told : goal.returns-in-Ok-Rejected-clause-told
returns-in-Ok-Rejected-clause-told c =
    told_from c.args.bytes.now c.args.resolve c.in-Ok-Rejected.field-0 c.in-Ok-Rejected.known c.args.limit c.errors_from.result c.in-Ok-Rejected.field-0-is c.in-Ok-Rejected.ensures c.errors_from.ensures.begins
