use Rattle.wac_resolution.proofs.resolver.AstResolver.mentioned_packages.Goals as goal
use Rattle.wac_resolution.specs.Noted.{mentions_in}

pub returns-in-Ok : goal.returns-in-Ok
returns-in-Ok c = record { these = mentions_in c.in-Ok.mentioned.entries; first = c.in-Ok.ensures.first; matter = c.in-Ok.ensures.matter; are = c.keep_mentioned.ensures }
