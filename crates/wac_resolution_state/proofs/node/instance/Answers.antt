use Rattle.wac_resolution_state.proofs.Common.{operation_of}
use Rattle.wac_resolution_state.proofs.Instances.{is_instance, not_instance}
use Rattle.wac_resolution_state.proofs.node.instance.Goals as goal

pub returns-in-Instance-clause-ok : goal.returns-in-Instance-clause-ok
returns-in-Instance-clause-ok c = is_instance c.args.state.now.graph c.args.node.0 c.in-Instance.id c.in-Instance.ensures.kind c.in-Instance.ensures.named c.types-types.ensures.means

pub returns-in_default : goal.returns-in_default
returns-in_default c = record { ok = tt; err = not_instance c.args.state.now.graph c.args.node.0 c.kind.result c.desc.result.now (operation_of c.args.operation) c.args.span c.kind.ensures.kind c.in_default.not-Instance c.desc.ensures }
