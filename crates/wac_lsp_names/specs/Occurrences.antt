-- The places of a name.
use Rattle.std.specs.Prelude.{◌≡◌, ◌≢◌, ℕ, ◌+◌, ◌-◌, ◌^◌, min, List, [], IsTrue, All, find, map, Option, Some, None, MatchOption, option_map}
use Rattle.std.specs.Option.{option_map_or}
use Rattle.wac_lexer.specs.Reading.{Slices}
use Rattle.wac_lexer.specs.Span.{Span, span}
use Rattle.wac_names.specs.Places.{definition_at, name_in, references_at, touches}
use Rattle.wac_lsp_names.specs.Read.{IsRead, Read}
use Rattle.wac_lsp_names.specs.declared.occurrences.Occurrences.{Occurrences}

-- a span, so many bytes before
abbrev pub back : ℕ → Span → Span
back by at = span (at.offset - by) at.len

-- where a name is at an offset: the first use there, else where it is bound
abbrev pub at_of : ℕ → Span → List Span → Span
at_of offset bound used = option_map_or (λ s. s) (find (touches offset) used) bound

-- a span lies in the source, and an offset is in it or just after it
abbrev pub IsNameAt : List ℕ → ℕ → Span → Type 0
IsNameAt source offset at = Slices source at × IsTrue (touches offset at)

-- a span lies in the source, which has a name there
abbrev pub IsNamed : List ℕ → Span → Type 0
IsNamed source at = Slices source at × (name_in source at ≢ [])

-- a span lies in the source, which has the same name there as where it is bound
abbrev pub IsAlike : List ℕ → Span → Span → Type 0
IsAlike source bound used = Slices source used × (name_in source bound ≡ name_in source used)

-- one of the places of a name is at an offset, and it is spelled in each as where it is bound
pub record AreOccurrences (source : List ℕ) (offset : ℕ) (o : Occurrences) : Type 0 where
  pub bound : IsNamed source o.bound
  pub used : All (IsAlike source o.bound) o.used.items
  pub at : o.at ≡ at_of offset o.bound o.used.items
  pub touches : IsTrue (touches offset o.at)

-- Places of a name are right: the first of the uses that an offset touches does it, or else the binding, and the source
-- has the name in each.
abbrev pub ArePlaces : List ℕ → ℕ → Span → List Span → Type 0
ArePlaces source offset bound used =
    IsTrue (touches offset (at_of offset bound used)) × IsNamed source bound × All (IsAlike source bound) used

-- what is found where a name is bound and used in these places: it is, unless they aren't right
abbrev pub IsKept : List ℕ → ℕ → Span → List Span → Option Occurrences → Type 0
IsKept source offset bound used None = ¬ (ArePlaces source offset bound used)
IsKept source offset bound used (Some o) = (o.bound ≡ bound) × (o.used.items ≡ used)

-- where an offset of a source is in a text that begins with so many bytes that the source doesn't have
abbrev pub inner : ℕ → ℕ → ℕ
inner skip offset = min (offset + skip) (2 ^ 64 - 1)

-- What is found at an offset by the names that were read: the one that is bound or used there, with all its uses, each
-- moved back. There is none where they have none there.
abbrev pub IsFoundBy : List ℕ → ℕ → Read → Option Occurrences → Type 0
IsFoundBy source offset r found =
    MatchOption (definition_at r.names (inner r.skip offset)) (found ≡ None)
    (λ name. IsKept source offset (back r.skip name.span)
    (map (back r.skip) (references_at r.names (inner r.skip offset))) found)

-- what is found at an offset of a source of which this was read: no name where nothing was
abbrev pub IsFoundIn : List ℕ → ℕ → Option Read → Option Occurrences → Type 0
IsFoundIn source offset None found = found ≡ None
IsFoundIn source offset (Some r) found = IsFoundBy source offset r found

-- what is found at an offset of a source
abbrev pub IsFoundAt : List ℕ → ℕ → Option Occurrences → Type 0
IsFoundAt source offset found = (r : Option Read) × IsRead source r × IsFoundIn source offset r found

-- where the name is bound that is found at an offset, if one is
abbrev pub IsBoundAt : List ℕ → ℕ → Option Span → Type 0
IsBoundAt source offset bound =
    (found : Option Occurrences) × IsFoundAt source offset found × (bound ≡ option_map (λ o. o.bound) found)

-- where the name is used that is found at an offset: nowhere if none is
abbrev pub AreUsesAt : List ℕ → ℕ → List Span → Type 0
AreUsesAt source offset used =
    (found : Option Occurrences) × IsFoundAt source offset found
    × (used ≡ option_map_or (λ o. o.used.items) found [])
