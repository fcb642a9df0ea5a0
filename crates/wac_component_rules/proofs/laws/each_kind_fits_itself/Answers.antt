use Rattle.wac_component_rules.proofs.Itself.{fits_itself}
use Rattle.wac_component_rules.proofs.laws.each_kind_fits_itself.Goals as goal

pub returns : goal.returns
returns c = fits_itself
