use Rattle.wac_resolution_rules.proofs.Alike.{plain_alike, bare_alike, printed_alike}
use Rattle.wac_resolution_rules.proofs.laws.layout_carries_no_meaning.Goals as goal

pub returns-clause-plain : goal.returns-clause-plain
returns-clause-plain c = plain_alike

pub returns-clause-bare : goal.returns-clause-bare
returns-clause-bare c = bare_alike

pub returns-clause-printed : goal.returns-clause-printed
returns-clause-printed c = printed_alike
