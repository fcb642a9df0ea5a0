use Rattle.wac_graph_types.proofs.Common.{◌∙◌, None, Some, ap, option_map, string_bytes}
use Rattle.wac_graph_types.specs.declared.kind.ItemKind.TheVariants as kinds
use Rattle.wac_graph_types.specs.Entry.{Slot}
use Rattle.wac_graph_types.proofs.Views.{mapped_at}
use Rattle.wac_graph_types.proofs.child.used.Goals as goal

pub returns-in-None : goal.returns-in-None
returns-in-None c = mapped_at (λ e. (Slot.used (string_bytes e.0) (option_map string_bytes e.1.name), Some (kinds.Instance e.1.interface))) c.args.uses.now.entries c.args.at None c.in-None.ensures.entry

pub returns-in-Some : goal.returns-in-Some
returns-in-Some c =
    ap (λ t. Some (Slot.used t (option_map (λ s. s.now) c.text.result), Some (kinds.Instance c.in-Some.u.now.interface))) c.as_str.ensures.value
    ∙ ap (λ n. Some (Slot.used (string_bytes c.in-Some.name.now) n, Some (kinds.Instance c.in-Some.u.now.interface))) c.text.ensures
    ∙ mapped_at (λ e. (Slot.used (string_bytes e.0) (option_map string_bytes e.1.name), Some (kinds.Instance e.1.interface))) c.args.uses.now.entries c.args.at (Some (c.in-Some.name.now, c.in-Some.u.now)) c.in-Some.ensures.entry
