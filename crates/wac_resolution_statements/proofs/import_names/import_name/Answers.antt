use Rattle.wac_resolution_statements.proofs.Common.{◌∙◌, IfOk-weaker}
use Rattle.wac_resolution_statements.proofs.import_names.import_name.Goals as goal

pub returns : goal.returns
returns c = IfOk-weaker c.from_str.result _ _ (λ s copied numbering. copied ∙ c.name_imported.ensures numbering) c.from_str.ensures.ok
