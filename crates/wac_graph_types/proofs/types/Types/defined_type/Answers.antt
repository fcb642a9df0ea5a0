use Rattle.wac_graph_types.proofs.Common.{◌∙◌, None, ap, arith, option_copied, option_and_then, slice_get}
use Rattle.wac_graph_types.specs.Readings.{as_defined}
use Rattle.wac_graph_types.proofs.Read.{read_at, read_past, no_defined}
use Rattle.wac_graph_types.proofs.types.Types.defined_type.Goals as goal

pub returns-in_err-entry : goal.returns-in_err-entry
returns-in_err-entry c =
    let h = c.in_err-entry.ensures.lookup in
    ap option_copied c.from_residual.ensures ∙ read_past as_defined c.deref.result.now c.args.id.0 (omega arith)
    ∙ ap (λ es. option_and_then as_defined (slice_get es c.args.id.0)) (c.deref.ensures.value ∙ c.self.view_is)

pub returns-in-Defined : goal.returns-in-Defined
returns-in-Defined c =
    let h = c.in_ok-entry.ensures.lookup in
    read_at as_defined c.deref.result.now c.args.id.0 c.in_ok-entry.entry.now _ (omega arith) h.1 (ap as_defined c.in-Defined.is)
    ∙ ap (λ es. option_and_then as_defined (slice_get es c.args.id.0)) (c.deref.ensures.value ∙ c.self.view_is)

pub returns-in_default : goal.returns-in_default
returns-in_default c =
    let h = c.in_ok-entry.ensures.lookup in
    read_at as_defined c.deref.result.now c.args.id.0 c.in_ok-entry.entry.now None (omega arith) h.1 (no_defined c.in_ok-entry.entry.now c.in_default.not-Defined)
    ∙ ap (λ es. option_and_then as_defined (slice_get es c.args.id.0)) (c.deref.ensures.value ∙ c.self.view_is)
