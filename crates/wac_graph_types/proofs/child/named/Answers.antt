use Rattle.wac_graph_types.proofs.Common.{◌∙◌, None, Some, ap, string_bytes}
use Rattle.wac_graph_types.specs.declared.kind.ItemKind.TheVariants as kinds
use Rattle.wac_graph_types.specs.Entry.{Slot}
use Rattle.wac_graph_types.proofs.Views.{mapped_at}
use Rattle.wac_graph_types.proofs.child.named.Goals as goal

pub returns-in-None : goal.returns-in-None
returns-in-None c = mapped_at (λ e. (Slot.named (string_bytes e.0), Some (kinds.Value e.1))) c.args.fields.now.entries c.args.at None c.in-None.ensures.entry

pub returns-in-Some : goal.returns-in-Some
returns-in-Some c =
    ap (λ t. Some (Slot.named t, Some (kinds.Value c.in-Some.v.now))) c.as_str.ensures.value
    ∙ mapped_at (λ e. (Slot.named (string_bytes e.0), Some (kinds.Value e.1))) c.args.fields.now.entries c.args.at (Some (c.in-Some.name.now, c.in-Some.v.now)) c.in-Some.ensures.entry
