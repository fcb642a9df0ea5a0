use Rattle.wac_component_rules.proofs.Transitive.{fits_through}
use Rattle.wac_component_rules.proofs.laws.fitting_leads_on.Goals as goal

pub returns : goal.returns
returns c = fits_through
