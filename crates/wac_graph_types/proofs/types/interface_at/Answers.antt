use Rattle.wac_graph_types.proofs.Common.{◌∙◌, None, ap, arith, option_copied}
use Rattle.wac_graph_types.specs.Readings.{as_interface}
use Rattle.wac_graph_types.proofs.Read.{read_at, read_past, no_interface}
use Rattle.wac_graph_types.proofs.types.interface_at.Goals as goal

pub returns-in_err-entry : goal.returns-in_err-entry
returns-in_err-entry c =
    let h = c.in_err-entry.ensures.lookup in
    ap option_copied c.from_residual.ensures ∙ read_past as_interface c.args.entries.now c.args.id.0 (omega arith)

pub returns-in-Interface : goal.returns-in-Interface
returns-in-Interface c =
    let h = c.in_ok-entry.ensures.lookup in
    read_at as_interface c.args.entries.now c.args.id.0 c.in_ok-entry.entry.now _ (omega arith) h.1 (ap as_interface c.in-Interface.is)

pub returns-in_default : goal.returns-in_default
returns-in_default c =
    let h = c.in_ok-entry.ensures.lookup in
    read_at as_interface c.args.entries.now c.args.id.0 c.in_ok-entry.entry.now None (omega arith) h.1 (no_interface c.in_ok-entry.entry.now c.in_default.not-Interface)
