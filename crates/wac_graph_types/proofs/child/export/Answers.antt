use Rattle.wac_graph_types.proofs.Common.{◌∙◌, None, Some, ap, string_bytes}
use Rattle.wac_graph_types.specs.Entry.{Slot}
use Rattle.wac_graph_types.proofs.Views.{mapped_at}
use Rattle.wac_graph_types.proofs.child.export.Goals as goal

pub returns-in-None : goal.returns-in-None
returns-in-None c = mapped_at (λ e. (Slot.export (string_bytes e.0), Some e.1)) c.args.exports.now.entries c.args.at None c.in-None.ensures.entry

pub returns-in-Some : goal.returns-in-Some
returns-in-Some c =
    ap (λ t. Some (Slot.export t, Some c.in-Some.kind.now)) c.as_str.ensures.value
    ∙ mapped_at (λ e. (Slot.export (string_bytes e.0), Some e.1)) c.args.exports.now.entries c.args.at (Some (c.in-Some.name.now, c.in-Some.kind.now)) c.in-Some.ensures.entry
