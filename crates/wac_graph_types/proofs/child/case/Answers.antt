use Rattle.wac_graph_types.proofs.Common.{◌∙◌, None, Some, ap, string_bytes}
use Rattle.wac_graph_types.specs.Entry.{Slot, optional}
use Rattle.wac_graph_types.proofs.Views.{mapped_at}
use Rattle.wac_graph_types.proofs.child.case.Goals as goal

pub returns-in-None : goal.returns-in-None
returns-in-None c = mapped_at (λ e. (Slot.named (string_bytes e.0), optional e.1)) c.args.cases.now.entries c.args.at None c.in-None.ensures.entry

pub returns-in-Some : goal.returns-in-Some
returns-in-Some c =
    ap (λ t. Some (Slot.named t, c.value.result)) c.as_str.ensures.value
    ∙ ap (λ k. Some (Slot.named (string_bytes c.in-Some.name.now), k)) c.value.ensures
    ∙ mapped_at (λ e. (Slot.named (string_bytes e.0), optional e.1)) c.args.cases.now.entries c.args.at (Some (c.in-Some.name.now, c.in-Some.v.now)) c.in-Some.ensures.entry
