use Rattle.wac_cli.proofs.Formatted.{fails_comes}
use Rattle.wac_cli.proofs.formatting.format_path.Goals as goal

pub returns-in-Err : goal.returns-in-Err
returns-in-Err g c =
    let replaced = g.F.FileSystem.replaced in
    fails_comes c.args.options c.args.path.now c.in-Err.error c.failed.result (replaced c.args.files.now) (replaced c.format_file.new.files) c.in-Err.ensures c.failed.ensures
