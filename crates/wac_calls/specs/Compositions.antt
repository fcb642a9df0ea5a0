-- What a call of a graph comes to.
use Rattle.std.specs.Prelude.{◌≡◌, ◌⊎◌, ℕ, List, IsUtf8, string_bytes}
use denote.Bor.{Bor}
use Rattle.wac_calls.specs.Graphs.{IsDocument, IsErrorOf}
use Rattle.wac_calls.specs.declared.composition.Composition.{Composition}
use Rattle.wac_calls.specs.declared.error.GraphError.{GraphError}
use Rattle.wac_calls.specs.Packages.{ArePackages}
use Rattle.wac_calls.specs.Told.{IsFlat, IsNoText, IsTooDeep, Told}
use Rattle.wac_calls.specs.Rejecting.{IsFaultOf}
use Rattle.wac_calls.specs.declared.answer.Answer.{Answer}
use Rattle.wac_calls.specs.declared.outcome.Outcome.{Outcome}
use Rattle.wac_calls.specs.declared.outcome.Outcome.TheVariants.{Written, Rejected, NotUtf8, OutOfMemory, NestedTooDeep, BadPackage}

-- the text is rejected for a rule that it breaks, unless memory ran out
abbrev pub IsOfDocument : Outcome → Type 0
IsOfDocument (Rejected place message) = Unit {0}
IsOfDocument OutOfMemory = Unit {0}
IsOfDocument outcome = ⊥

-- the buffer of packages is rejected, unless memory ran out
abbrev pub IsOfPackage : Outcome → Type 0
IsOfPackage (BadPackage at message) = Unit {0}
IsOfPackage OutOfMemory = Unit {0}
IsOfPackage outcome = ⊥

-- A graph is written of documents alone, and a text that is none is rejected for its first fault, unless the packages
-- are. Which graph is written, and for which rule a document is rejected, is tested.
abbrev pub SaysGraph : List ℕ → Outcome → Type 0
SaysGraph source (Written text) = IsDocument source
SaysGraph source (Rejected place message) = IsFaultOf source place (string_bytes message) ⊎ IsDocument source
SaysGraph source NotUtf8 = ⊥
SaysGraph source OutOfMemory = Unit {0}
SaysGraph source (NestedTooDeep at) = ⊥
SaysGraph source (BadPackage at message) = Unit {0}

-- whatever the source: where there is no graph for this reason, this is what it comes to
abbrev pub SaysUngraphed : GraphError → Outcome → Type 0
SaysUngraphed error outcome = (source : List ℕ) → IsErrorOf source error → SaysGraph source outcome

-- the buffer has frames, and no bracket of one that has no component is nested deeper than the limit
abbrev pub HasPackages : ℕ → List ℕ → Type 0
HasPackages limit packages = (frames : List (Bor (List ℕ))) × ArePackages limit packages frames

-- What the graph of a text comes to with the packages of a buffer. Without such frames the buffer is rejected, unless
-- memory ran out.
abbrev pub SaysGraphWith : ℕ → List ℕ → List ℕ → Outcome → Type 0
SaysGraphWith limit source packages outcome =
    IsOfPackage outcome ⊎ (HasPackages limit packages × SaysGraph source outcome)

-- what the graph of bytes comes to, with the packages of a buffer
abbrev pub ComesToGraph : ℕ → List ℕ → List ℕ → Outcome → Type 0
ComesToGraph limit source packages outcome =
    IsTooDeep limit source outcome
    ⊎ (IsFlat limit source × (IsNoText source outcome ⊎ (IsUtf8 source × SaysGraphWith limit source packages outcome)))

-- what a call returned of a composition, and what the room for the graph and the room for a message then hold
abbrev pub AnsweredGraph : ℕ → Composition → Answer → List ℕ → List ℕ → List ℕ → List ℕ → Type 0
AnsweredGraph limit c answer out out' said said' =
    Told (ComesToGraph limit c.text.now c.packages.now) answer out out' said said'
