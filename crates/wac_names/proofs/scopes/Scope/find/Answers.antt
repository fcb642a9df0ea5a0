use Rattle.std.proofs.Common.{◌∙◌, ap}
use Rattle.wac_graph_types.specs.Scope.{look_up}
use Rattle.wac_names.proofs.Bound.{text_found}
use Rattle.wac_names.proofs.scopes.Scope.find.Goals as goal

pub returns : goal.returns
returns g c = c.copied.ensures ∙ c.get.ensures.value ∙ text_found c.args.name.now c.self.inside.bound.entries ∙ ap (look_up c.args.name.now) c.self.view_is
