use Rattle.wac_cli.proofs.Checked.{read_checks}
use Rattle.wac_cli.proofs.checking.checked.Goals as goal

pub returns-in-Ok : goal.returns-in-Ok
returns-in-Ok g c = read_checks c.args.read c.in-Ok.bytes c.as_slice.result.now c.check_bytes.result c.in-Ok.is c.as_slice.ensures.value c.check_bytes.ensures
