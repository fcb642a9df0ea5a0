use Rattle.wac_graph_types.proofs.Common.{None, Some, sym, arith, slice_get_past}
use Rattle.wac_graph_types.specs.declared.kind.ItemKind.TheVariants as kinds
use Rattle.wac_graph_types.specs.Entry.{Slot}
use Rattle.wac_graph_types.proofs.Rows.{stands}
use Rattle.wac_graph_types.proofs.Views.{mapped_at}
use Rattle.wac_graph_types.proofs.child.item.Goals as goal

pub returns-in-None : goal.returns-in-None
returns-in-None c =
    let h = c.in-None.ensures.lookup in
    mapped_at (λ t. (Slot.only, Some (kinds.Value t))) c.args.types.now c.args.at None (sym (slice_get_past c.args.types.now c.args.at (omega arith)))

pub returns-in-Some : goal.returns-in-Some
returns-in-Some c =
    let h = c.in-Some.ensures.lookup in
    mapped_at (λ t. (Slot.only, Some (kinds.Value t))) c.args.types.now c.args.at (Some c.in-Some.v.now) (sym (stands c.args.types.now c.args.at c.in-Some.v.now (omega arith) h.1))
