use Rattle.wac_resolution_rules.proofs.StatementsMention.{only_mentioned, describes_agree, instances_mentioned}
use Rattle.wac_resolution_rules.proofs.BrokenMention.{only_mentioned_fail}
use Rattle.wac_resolution_rules.proofs.laws.only_mentioned_packages_matter.Goals as goal

pub returns-clause-kept : goal.returns-clause-kept
returns-clause-kept c = only_mentioned

pub returns-clause-fails : goal.returns-clause-fails
returns-clause-fails c = only_mentioned_fail

pub returns-clause-agree : goal.returns-clause-agree
returns-clause-agree c = λ s packages others document c own same described. describes_agree s packages others document c own same described

pub returns-clause-instances : goal.returns-clause-instances
returns-clause-instances c = instances_mentioned
