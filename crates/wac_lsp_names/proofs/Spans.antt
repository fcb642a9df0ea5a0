-- The places of a name.
use Rattle.std.proofs.Common.{◌≡◌, refl, sym, subst, cond, ℕ, ◌+◌, ◌<◌, ◌≤◌, List, [], ◌∷◌, take, get_or, length, Bool, true, false, Option, Some, None}
use Rattle.std.specs.List.{All, find}
use Rattle.std.specs.Option.{option_map_or}
use Rattle.std.proofs.lemmas.List.Elements.{All-head, All-more, All-tail, All-weaker}
use Rattle.std.proofs.lemmas.List.{take_all}
use Rattle.wac_lexer.specs.Reading.{Slices}
use Rattle.wac_lexer.specs.Span.{Span}
use Rattle.wac_names.specs.Places.{touches}
use Rattle.wac_lsp_names.specs.declared.occurrences.Occurrences.{Occurrences}
use Rattle.wac_lsp_names.specs.Occurrences.{AreOccurrences, AreUsesAt, IsAlike, IsBoundAt, IsFoundAt, IsNameAt, at_of}

-- all uses lie in the source
pub uses_lie_in : (source : List ℕ) (offset : ℕ) (o : Occurrences) → AreOccurrences source offset o → All (Slices source) o.used.items
uses_lie_in source offset o are = All-weaker (IsAlike source o.bound) (Slices source) (λ s alike. alike.0) o.used.items are.used

found_lies_in : (source : List ℕ) (is_here : Bool) (s : Span) (found : Option Span) (bound : Span) → Slices source s → Slices source (option_map_or (λ s. s) found bound)
    → Slices source (option_map_or (λ s. s) (cond is_here (Some s) found) bound)
found_lies_in source true s found bound here there = here
found_lies_in source false s found bound here there = there

-- where a name is at an offset lies in the source
at_lies_in : (source : List ℕ) (offset : ℕ) (bound : Span) (used : List Span) → Slices source bound → All (Slices source) used → Slices source (at_of offset bound used)
at_lies_in source offset bound [] is_in are_in = is_in
at_lies_in source offset bound (s ∷ used) is_in are_in =
    found_lies_in source (touches offset s) s (find (touches offset) used) bound (All-head (Slices source) s used are_in) (at_lies_in source offset bound used is_in (All-tail (Slices source) s used are_in))

-- a name is at the offset
pub name_is_at : (source : List ℕ) (offset : ℕ) (o : Occurrences) → AreOccurrences source offset o → IsNameAt source offset o.at
name_is_at source offset o are = (subst (Slices source) (sym are.at) (at_lies_in source offset o.bound o.used.items are.bound.0 (uses_lie_in source offset o are)), are.touches)

-- where the name that is found is bound
pub bound_at : (source : List ℕ) (offset : ℕ) (o : Occurrences) → IsFoundAt source offset (Some o) → IsBoundAt source offset (Some o.bound)
bound_at source offset o found = (Some o, found, refl)

-- no name is found that is bound
pub unbound : (source : List ℕ) (offset : ℕ) → IsFoundAt source offset None → IsBoundAt source offset None
unbound source offset found = (None, found, refl)

-- where the name that is found is used
pub used_at : (source : List ℕ) (offset : ℕ) (o : Occurrences) → IsFoundAt source offset (Some o) → AreUsesAt source offset o.used.items
used_at source offset o found = (Some o, found, refl)

-- no name is found that is used
pub unused : (source : List ℕ) (offset : ℕ) (used : List Span) → IsFoundAt source offset None → used ≡ [] → AreUsesAt source offset used
unused source offset used found none = (None, found, none)

-- one more span has the name
pub one_more_alike : (source : List ℕ) (bound : Span) (spans : List Span) (index : ℕ) (s : Span) → All (IsAlike source bound) (take index spans) → index < length spans → s ≡ get_or spans index s
    → IsAlike source bound s → All (IsAlike source bound) (take (index + 1) spans)
one_more_alike source bound spans index s before within is here = All-more (IsAlike source bound) spans index s within before (subst (IsAlike source bound) is here)

-- all spans have the name
pub all_alike : (source : List ℕ) (bound : Span) (spans : List Span) (index : ℕ) → All (IsAlike source bound) (take index spans) → length spans ≤ index → All (IsAlike source bound) spans
all_alike source bound spans index before all = subst (All (IsAlike source bound)) (take_all index spans all) before
