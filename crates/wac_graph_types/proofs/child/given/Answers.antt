use Rattle.wac_graph_types.proofs.Common.{None, Some, string_bytes}
use Rattle.wac_graph_types.specs.declared.kind.ItemKind.TheVariants as kinds
use Rattle.wac_graph_types.specs.Entry.{Slot}
use Rattle.wac_graph_types.proofs.Views.{mapped_at}
use Rattle.wac_graph_types.proofs.child.given.Goals as goal

pub returns-in-None : goal.returns-in-None
returns-in-None c = mapped_at (λ e. (Slot.given (Some (string_bytes e.0)), Some (kinds.Value e.1))) c.args.results.now.entries c.args.at None c.in-None.ensures.entry
