use Rattle.std.proofs.Common.{◌≡◌, true, subst}
use Rattle.wac_graph_types.specs.Meaning.{Meaning}
use Rattle.wac_component_rules.specs.Fits.{fits}
use Rattle.wac_component_rules.specs.Seen.{seen}
use Rattle.wac_component_rules.proofs.Itself.{fits_itself}
use Rattle.wac_component_rules.proofs.laws.same_kinds_fit.Goals as goal

pub returns : goal.returns
returns c = λ a b clear same. subst (λ (m : Meaning). fits (seen a) (seen m) ≡ true) same (fits_itself (seen a) clear)
