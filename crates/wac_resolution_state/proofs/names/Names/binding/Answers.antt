use Rattle.wac_resolution_state.proofs.Common.{◌∙◌, ap, look_up}
use Rattle.wac_resolution_state.proofs.Bound.{text_found}
use Rattle.wac_resolution_state.proofs.names.Names.binding.Goals as goal

pub returns : goal.returns
returns g c = c.copied.ensures ∙ c.get.ensures.value ∙ text_found c.args.name.now c.self.inside.bound.entries ∙ ap (look_up c.args.name.now) c.self.view_is
