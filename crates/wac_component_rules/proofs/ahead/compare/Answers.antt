use Rattle.std.proofs.Common.{sym}
use Rattle.wac_component_rules.proofs.ahead.compare.Goals as goal

pub returns-in_err-keep : goal.returns-in_err-keep
returns-in_err-keep c = record { found = c.keep.ensures c.args.entries.now c.entry_fits-fits.ensures.found (λ o. sym (c.entry_fits-fits.ensures.fits o)) }

pub returns : goal.returns
returns c = record { found = c.keep.ensures c.args.entries.now c.entry_fits-fits.ensures.found (λ o. sym (c.entry_fits-fits.ensures.fits o)) }
