use Rattle.wac_resolution.proofs.Common.{◌∙◌, ap, rules, key_of, is_mentioned}
use Rattle.wac_resolution.specs.Noted.{mentions_in}
use Rattle.indexmap.proofs.CallerLemmas.{filter-RetainsPairs}
use Rattle.wac_resolution.specs.Resolved.{by_key}
use Rattle.wac_resolution.proofs.Kept.{by_key_kept}
use Rattle.wac_resolution.proofs.keeping.keep_mentioned.Goals as goal

pub returns : goal.returns
returns c =
    ap by_key (filter-RetainsPairs _ (λ e. is_mentioned (mentions_in c.args.mentioned.now.entries) (key_of e.0)) _ (λ k v b w f call. search rules) c.args.packages.entries _ c.retain.ensures.filtered)
    ∙ by_key_kept (mentions_in c.args.mentioned.now.entries) c.args.packages.entries
