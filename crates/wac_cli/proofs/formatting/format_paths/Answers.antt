use Rattle.wac_cli.proofs.Replaced.{looked}
use Rattle.wac_cli.proofs.formatting.format_paths.Goals as goal

pub returns-in-Ok-clause-looks : goal.returns-in-Ok-clause-looks
returns-in-Ok-clause-looks g c =
    let replaced = g.F.FileSystem.replaced in
    looked c.args.options (replaced c.args.files.now) (replaced c.format_all.new.files) c.format_all.ensures

pub returns-in-Err-clause-looks : goal.returns-in-Err-clause-looks
returns-in-Err-clause-looks g c =
    let replaced = g.F.FileSystem.replaced in
    looked c.args.options (replaced c.args.files.now) (replaced c.format_all.new.files) c.format_all.ensures
