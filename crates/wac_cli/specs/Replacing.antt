-- Which files `fmt` replaces.
use Rattle.std.specs.Prelude.{◌≡◌, ◌≢◌, List, ◌++◌, [], ◌∷◌}
use Rattle.wac_files.specs.Replacements.{Replacement}
use Rattle.wac_cli.specs.Tidying.{IsTidyOf}
use Rattle.wac_cli_console.specs.declared.options.Action.TheVariants.{Write}
use Rattle.wac_cli.specs.declared.options.FormatOptions.{FormatOptions}

-- `fmt` was to write, and the file held other bytes than their tidy text, which it was made to hold.
abbrev pub IsFormatting : FormatOptions → Replacement → Type 0
IsFormatting options r = (options.action ≡ Write) × IsTidyOf options r.held r.text × (r.text ≢ r.held)

abbrev pub AreFormattings : FormatOptions → List Replacement → Type 0
AreFormattings options [] = Unit {0}
AreFormattings options (r ∷ rs) = IsFormatting options r × AreFormattings options rs

-- What was replaced before, and what after: nothing but files that were formatted.
abbrev pub OnlyFormats : FormatOptions → List Replacement → List Replacement → Type 0
OnlyFormats options before after = (added : List Replacement) × (after ≡ before ++ added) × AreFormattings options added
