use Rattle.wac_graph_types.proofs.Common.{refl}
use Rattle.wac_graph_types.specs.Names.{by_name}
use Rattle.wac_graph_types.proofs.Tested.{ids_pass, pass_ids}
use Rattle.wac_graph_types.proofs.package.have_ids.Goals as goal

pub returns-then-definitions_pass : goal.returns-then-definitions_pass
returns-then-definitions_pass c = (
  λ t. pass_ids c.args.entries.now (by_name c.args.definitions.now.entries) (c.if-definitions_pass.ensures.0 refl) (c.entries_pass.ensures.0 t),
  λ h. c.entries_pass.ensures.1 (ids_pass c.args.entries.now (by_name c.args.definitions.now.entries) h),
)
