use Rattle.wac_resolution.proofs.Common.{◌∙◌, subst, Packages, IsMentioned, given_over, mentions}
use Rattle.std.specs.Prelude.{◌↔◌}
use Rattle.std.proofs.Common.{sym}
use Rattle.wac_resolution_rules.specs.ResolvedDocument.{Describes, FirstFailing}
use Rattle.wac_resolution.specs.FirstMentions.{first_mentions}
use Rattle.wac_resolution.proofs.FirstMentions.{any_first, are_first, kept_first, keys_hold}
use Rattle.wac_resolution.proofs.mention_laws.only_first_mentions_matter.Goals as goal

pub returns-clause-first : goal.returns-clause-first
returns-clause-first c = are_first

pub returns-clause-matter : goal.returns-clause-matter
returns-clause-matter c = λ document.
    let law = c.only_mentioned_packages_matter.ensures in
    record {
      describes = λ s packages it own.
          subst (λ (ps : Packages). Describes (given_over s ps) document it ↔ Describes (given_over s packages) document it) (sym (kept_first (mentions document) packages)) (law.kept s packages document it own);
      fails = λ s packages it own.
          subst (λ (ps : Packages). FirstFailing (given_over s ps) document it ↔ FirstFailing (given_over s packages) document it) (sym (kept_first (mentions document) packages)) (law.fails s packages document it own);
      instances = λ s it own described.
          keys_hold (IsMentioned (mentions document)) (IsMentioned (first_mentions (mentions document))) it.nodes (λ key h. any_first key (mentions document) ∙ h) (law.instances s document it own described);
    }
