-- Files that are formatted one after another.
use Rattle.wac_cli.proofs.Common.{◌≡◌, ◌≢◌, refl, ap, ◌∙◌, List, ◌++◌, [], ◌∷◌, append_assoc, append-nil, Replacement}
use Rattle.wac_cli.specs.Replacing.{AreFormattings, OnlyFormats}
use Rattle.wac_cli_console.specs.declared.options.Action.TheVariants.{Write}
use Rattle.wac_cli.specs.declared.options.FormatOptions.{FormatOptions}

pub joined : (options : FormatOptions) (rs ss : List Replacement) → AreFormattings options rs → AreFormattings options ss → AreFormattings options (rs ++ ss)
joined options [] ss first second = second
joined options (r ∷ rs) ss first second = (first.0, joined options rs ss first.1 second)

pub both : (options : FormatOptions) (before between after : List Replacement) → OnlyFormats options before between → OnlyFormats options between after → OnlyFormats options before after
both options before between after first second = (
  first.0 ++ second.0,
  second.1 ∙ ap (λ (rs : List Replacement). rs ++ second.0) first.1 ∙ append_assoc before first.0 second.0,
  joined options first.0 second.0 first.2 second.2,
)

-- where nothing is to be written, nothing was replaced
pub empty : (options : FormatOptions) (rs : List Replacement) → options.action ≢ Write → AreFormattings options rs → rs ≡ []
empty options [] quiet each = refl
empty options (r ∷ rs) quiet each = absurd (quiet each.0.0)

pub looked : (options : FormatOptions) (before after : List Replacement) → OnlyFormats options before after → options.action ≢ Write → after ≡ before
looked options before after formats quiet =
    formats.1 ∙ ap (λ (rs : List Replacement). before ++ rs) (empty options formats.0 quiet formats.2) ∙ append-nil before
