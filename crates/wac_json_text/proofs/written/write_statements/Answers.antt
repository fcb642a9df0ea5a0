use Rattle.wac_json_text.proofs.Common.{statement_of}
use Rattle.wac_json_forms.specs.Forms.{statement_json}
use Rattle.wac_json_text.proofs.Steps.{of_items}
use Rattle.wac_json_text.proofs.written.write_statements.Goals as goal

pub returns : goal.returns
returns g c = of_items statement_json statement_of c.args.statements.now c.list.ensures
