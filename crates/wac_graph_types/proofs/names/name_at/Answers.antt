use Rattle.wac_graph_types.proofs.Common.{◌∙◌, None, Some, ap, string_bytes, option_map}
use Rattle.wac_graph_types.proofs.Views.{mapped_at}
use Rattle.wac_graph_types.proofs.names.name_at.Goals as goal

pub returns-in-None : goal.returns-in-None
returns-in-None g c = ap (option_map (λ e. e.0)) (mapped_at (λ e. (string_bytes e.0, e.1)) c.args.all.now.entries c.args.at None c.in-None.ensures.entry)

pub returns-in_ok-from_str-in-Some : goal.returns-in_ok-from_str-in-Some
returns-in_ok-from_str-in-Some g c =
    ap Some (c.in_ok-from_str-in-Some.ensures.ok ∙ c.as_str.ensures.value)
    ∙ ap (option_map (λ e. e.0)) (mapped_at (λ e. (string_bytes e.0, e.1)) c.args.all.now.entries c.args.at (Some (c.in-Some.name.now, c.in-Some.field-0-1.now)) c.in-Some.ensures.entry)
