use Rattle.wac_cli.proofs.Common.{refl, string_bytes}
use Rattle.wac_cli.proofs.Tidied.{tidied}
use Rattle.wac_cli.proofs.planning.tidy_with.Goals as goal

pub returns-clause-tidied : goal.returns-clause-tidied
returns-clause-tidied c =
    tidied string_bytes c.args.options (record { indent = c.args.options.indent; line_end = c.chosen.result }) c.args.text.now c.tidy.result (refl, c.chosen.ensures)
    c.tidy.ensures.comments c.tidy.ensures.kept c.tidy.ensures.formatted c.tidy.ensures.docs c.tidy.ensures.plain
