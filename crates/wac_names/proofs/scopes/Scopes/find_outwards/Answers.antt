use Rattle.std.proofs.Common.{◌∙◌, ap, sym}
use Rattle.wac_graph_types.specs.Scope.{look_up}
use Rattle.wac_names.specs.LookUps.{Scopes, names_at}
use Rattle.wac_names.proofs.Bound.{found_first, found_second}
use Rattle.wac_names.proofs.scopes.Scopes.find_outwards.Goals as goal

pub returns-in-Some : goal.returns-in-Some
returns-in-Some c = sym (found_first c.args.name.now (names_at c.args.self.now c.args.level) c.args.self.now.root c.in-Some.span (sym c.find.ensures ∙ c.in-Some.is))

pub returns-in-None : goal.returns-in-None
returns-in-None c = c.find-in-None.ensures ∙ ap (λ (s : Scopes). look_up c.args.name.now s.root) c.self.view_is ∙ sym (found_second c.args.name.now (names_at c.args.self.now c.args.level) c.args.self.now.root (sym c.find.ensures ∙ c.in-None.is))
