use Rattle.wac_cli.proofs.Checked.{verdict_rejects}
use Rattle.wac_cli.proofs.checking.judge.Goals as goal

pub returns-in_ok-report_all-in-Ok-Rejected : goal.returns-in_ok-report_all-in-Ok-Rejected
returns-in_ok-report_all-in-Ok-Rejected g c =
    verdict_rejects c.args.bytes.now c.in-Ok-Rejected.field-0 c.in-Ok-Rejected._diagnostic c.in-Ok-Rejected.field-0-is c.in-Ok-Rejected.ensures
