-- What is said of a name.
use Rattle.std.specs.Prelude.{◌≡◌, ℕ, List, Option, option_map}
use Rattle.wac_lsp_names.specs.declared.hover.Hover.{Hover}
use Rattle.wac_lsp_names.specs.declared.occurrences.Occurrences.{Occurrences}
use Rattle.wac_lsp_names.specs.Occurrences.{IsFoundAt}

-- something is said at an offset just where a name is found, and of where that is there
abbrev pub IsSaidAt : List ℕ → ℕ → Option Hover → Type 0
IsSaidAt source offset hover =
    (found : Option Occurrences) × IsFoundAt source offset found
    × (option_map (λ h. h.at) hover ≡ option_map (λ o. o.at) found)
