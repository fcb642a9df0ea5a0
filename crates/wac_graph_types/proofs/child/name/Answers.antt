use Rattle.wac_graph_types.proofs.Common.{◌∙◌, None, Some, ap, string_bytes}
use Rattle.wac_graph_types.specs.Entry.{Slot}
use Rattle.wac_graph_types.proofs.Views.{mapped_at}
use Rattle.wac_graph_types.proofs.child.name.Goals as goal

pub returns-in-None : goal.returns-in-None
returns-in-None c = mapped_at (λ n. (Slot.named (string_bytes n), None)) c.args.names.now.keys c.args.at None c.in-None.ensures.key

pub returns-in-Some : goal.returns-in-Some
returns-in-Some c =
    ap (λ t. Some (Slot.named t, None)) c.as_str.ensures.value
    ∙ mapped_at (λ n. (Slot.named (string_bytes n), None)) c.args.names.now.keys c.args.at (Some c.in-Some.name.now) c.in-Some.ensures.key
