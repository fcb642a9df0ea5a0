use Rattle.wac_resolution_statements.proofs.Common.{refl, means, item_id}
use Rattle.wac_resolution_statements.proofs.ImportNames.{id_there, id_missing}
use Rattle.wac_resolution_statements.proofs.import_names.named_by_id.Goals as goal

pub returns-in-Some : goal.returns-in-Some
returns-in-Some c numbering = id_there (item_id (means numbering c.args.state.now.graph c.args.kind)) _ c.in-Some.id.now c.args.own.now (c.in-Some.ensures numbering) refl

pub returns-in-None : goal.returns-in-None
returns-in-None c numbering = id_missing (item_id (means numbering c.args.state.now.graph c.args.kind)) _ c.args.own.now (c.in-None.ensures numbering) refl
