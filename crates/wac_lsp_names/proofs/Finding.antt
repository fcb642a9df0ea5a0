-- What is found by the names that were read.
use Rattle.std.proofs.Common.{◌≡◌, refl, ap, subst, ℕ, List, Option, Some, None, Result, Ok, Err, IfOk, option_map}
use Rattle.std.proofs.lemmas.Option.{none-some}
use Rattle.wac_names.specs.LookedUp.{HasNoNames, IsFoundOf}
use Rattle.wac_names.specs.declared.names.Names.{Names}
use Rattle.wac_lsp_names.specs.declared.hover.Hover.{Hover}
use Rattle.wac_lsp_names.specs.declared.occurrences.Occurrences.{Occurrences}
use Rattle.wac_lsp_names.specs.Occurrences.{IsFoundAt, IsFoundBy}
use Rattle.wac_lsp_names.specs.Read.{IsRead, Read}
use Rattle.wac_lsp_names.specs.Said.{IsSaidAt}

-- what is found by them is found at the offset
pub found_there : {E : Type 0} (source : List ℕ) (offset : ℕ) (r : Read) (result : Result (Option Occurrences) E) → IsRead source (Some r) → IfOk result (IsFoundBy source offset r)
    → IfOk result (IsFoundAt source offset)
found_there source offset r (Ok found) read by = (Some r, read, by)
found_there source offset r (Err why) read by = tt

-- where nothing is read, no name is found
pub nothing_found : (source : List ℕ) (offset : ℕ) → IsRead source None → IsFoundAt source offset None
nothing_found source offset read = (None, read, refl)

-- what is said of the name that is found
pub said_of : (source : List ℕ) (offset : ℕ) (r : Read) (o : Occurrences) (h : Hover) → IsRead source (Some r) → IsFoundBy source offset r (Some o) → h.at ≡ o.at → IsSaidAt source offset (Some h)
said_of source offset r o h read by same = (Some o, (Some r, read, by), ap Some same)

-- nothing is said where no name is found
pub nothing_said : (source : List ℕ) (offset : ℕ) (r : Read) → IsRead source (Some r) → IsFoundBy source offset r None → IsSaidAt source offset None
nothing_said source offset r read by = (None, (Some r, read, by), refl)

-- nor where nothing is read
pub nothing_read : (source : List ℕ) (offset : ℕ) → IsRead source None → IsSaidAt source offset None
nothing_read source offset read = (None, nothing_found source offset read, refl)

unfound_of : (source : List ℕ) (offset : ℕ) (found : Option Occurrences) → IsFoundAt source offset found → None ≡ option_map (λ o. o.at) found → IsFoundAt source offset None
unfound_of source offset None is none = is
unfound_of source offset (Some o) is none = absurd (none-some o.at none)

-- where nothing is said, no name is found
pub unfound : (source : List ℕ) (offset : ℕ) → IsSaidAt source offset None → IsFoundAt source offset None
unfound source offset said = unfound_of source offset said.0 said.1 said.2

-- a text of which no names are found has none
pub without_names : (written text : List ℕ) (found : Option Names) → text ≡ written → IsFoundOf text found → found ≡ None → HasNoNames written
without_names written text found same of none = subst HasNoNames same (subst (IsFoundOf text) none of)
