use Rattle.wac_graph_types.proofs.Common.{◌∙◌, None, ap, arith, option_copied, option_and_then, slice_get}
use Rattle.wac_graph_types.specs.Readings.{as_resource}
use Rattle.wac_graph_types.proofs.Read.{read_at, read_past, no_resource}
use Rattle.wac_graph_types.proofs.types.Types.resource.Goals as goal

pub returns-in_err-entry : goal.returns-in_err-entry
returns-in_err-entry c =
    let h = c.in_err-entry.ensures.lookup in
    ap option_copied c.from_residual.ensures ∙ read_past as_resource c.deref.result.now c.args.id.0 (omega arith)
    ∙ ap (λ es. option_and_then as_resource (slice_get es c.args.id.0)) (c.deref.ensures.value ∙ c.self.view_is)

pub returns-in-Resource : goal.returns-in-Resource
returns-in-Resource c =
    let h = c.in_ok-entry.ensures.lookup in
    read_at as_resource c.deref.result.now c.args.id.0 c.in_ok-entry.entry.now _ (omega arith) h.1 (ap as_resource c.in-Resource.is)
    ∙ ap (λ es. option_and_then as_resource (slice_get es c.args.id.0)) (c.deref.ensures.value ∙ c.self.view_is)

pub returns-in_default : goal.returns-in_default
returns-in_default c =
    let h = c.in_ok-entry.ensures.lookup in
    read_at as_resource c.deref.result.now c.args.id.0 c.in_ok-entry.entry.now None (omega arith) h.1 (no_resource c.in_ok-entry.entry.now c.in_default.not-Resource)
    ∙ ap (λ es. option_and_then as_resource (slice_get es c.args.id.0)) (c.deref.ensures.value ∙ c.self.view_is)
