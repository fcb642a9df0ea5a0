use Rattle.wac_resolution.proofs.Common.{◌∙◌, refl}
use Rattle.wac_resolution.proofs.Noting.{has_key}
use Rattle.wac_resolution.proofs.keeping.fn.keep_mentioned.retain.Goals as goal

pub returns : goal.returns
returns c = (c.contains_key.ensures ∙ has_key c.args.key.now c.captures.mentioned.now.entries, refl)
