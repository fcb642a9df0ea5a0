use Rattle.wac_graph_types.proofs.Common.{◌∙◌, None, ap, arith, option_copied}
use Rattle.wac_graph_types.specs.Readings.{as_world}
use Rattle.wac_graph_types.proofs.Read.{read_at, read_past, no_world}
use Rattle.wac_graph_types.proofs.types.world_at.Goals as goal

pub returns-in_err-entry : goal.returns-in_err-entry
returns-in_err-entry c =
    let h = c.in_err-entry.ensures.lookup in
    ap option_copied c.from_residual.ensures ∙ read_past as_world c.args.entries.now c.args.id.0 (omega arith)

pub returns-in-World : goal.returns-in-World
returns-in-World c =
    let h = c.in_ok-entry.ensures.lookup in
    read_at as_world c.args.entries.now c.args.id.0 c.in_ok-entry.entry.now _ (omega arith) h.1 (ap as_world c.in-World.is)

pub returns-in_default : goal.returns-in_default
returns-in_default c =
    let h = c.in_ok-entry.ensures.lookup in
    read_at as_world c.args.entries.now c.args.id.0 c.in_ok-entry.entry.now None (omega arith) h.1 (no_world c.in_ok-entry.entry.now c.in_default.not-World)
