use Rattle.wac_component_rules.proofs.finding_mismatch.mismatch.Goals as goal

pub fits_after-requires-clause-found : goal.fits_after-requires-clause-found
fits_after-requires-clause-found c = c.new-found.ensures c.entries.result.now
