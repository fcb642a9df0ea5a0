-- The edits that give a name another one.
use Rattle.std.specs.Prelude.{◌≡◌, ◌≤◌, ◌⊎◌, ℕ, Bool, true, false, List, [], ◌∷◌, ◌++◌, Some, codes, filter, map, string_bytes, IsPermutation}
use Rattle.wac_lexer.specs.Reading.{Slices}
use Rattle.wac_lexer.specs.Span.{end_of}
use Rattle.wac_ast_grammar.specs.Tree.{without_percent}
use Rattle.wac_names.specs.Places.{name_in}
use Rattle.wac_lsp_names.specs.declared.edits.Edit.{Edit}
use Rattle.wac_lsp_names.specs.declared.occurrences.Occurrences.{Occurrences}
use Rattle.wac_lsp_names.specs.Occurrences.{AreOccurrences, IsFoundAt}

-- a text is a name, with or without `%`
abbrev pub IsWritten : List ℕ → List ℕ → Type 0
IsWritten name text = without_percent text ≡ name

-- a text is a name, something after it, and another name
abbrev pub Joins : List ℕ → List ℕ → List ℕ → List ℕ → Type 0
Joins first between second text =
    (a : List ℕ) × (b : List ℕ) × (text ≡ a ++ (between ++ b)) × IsWritten first a × IsWritten second b

-- the new name, alone or beside the old one: `new as old`, `old as new`, `old: new`
abbrev pub GivesNew : List ℕ → List ℕ → List ℕ → Type 0
GivesNew old new text =
    IsWritten new text
    ⊎ (Joins new (codes " as ") old text ⊎ (Joins old (codes " as ") new text ⊎ Joins old (codes ": ") new text))

-- ` as old`
abbrev pub AddsOld : List ℕ → List ℕ → Type 0
AddsOld old text = (a : List ℕ) × (text ≡ codes " as " ++ a) × IsWritten old a

-- the old name is replaced by the new one, with the old one beside it or without
abbrev pub PutsNew : List ℕ → List ℕ → List ℕ → Edit → Type 0
PutsNew source old new e =
    (name_in source e.span ≡ old) × (name_in (string_bytes e.text) e.name ≡ new)
    × GivesNew old new (string_bytes e.text)

-- the old name stays: ` as old` is put between two characters, or `old: old` in its place
abbrev pub Keeps : List ℕ → List ℕ → Edit → Type 0
Keeps source old e =
    ((e.span.len ≡ 0) × AddsOld old (string_bytes e.text))
    ⊎ ((name_in source e.span ≡ old) × Joins old (codes ": ") old (string_bytes e.text))

abbrev pub IsEditOf : List ℕ → List ℕ → List ℕ → Edit → Bool → Type 0
IsEditOf source old new e true = PutsNew source old new e
IsEditOf source old new e false = Keeps source old e

-- what an edit replaces lies in the source and cuts no character: it is the old name, which gets the new one or stays
abbrev pub IsEdit : List ℕ → List ℕ → List ℕ → Edit → Type 0
IsEdit source old new e = Slices source e.span × IsEditOf source old new e e.renames

-- each edit begins where the one before ends or after that
abbrev pub AreEdits : List ℕ → List ℕ → List ℕ → ℕ → List Edit → Type 0
AreEdits source old new from [] = Unit {0}
AreEdits source old new from (e ∷ es) =
    (from ≤ e.span.offset) × IsEdit source old new e × AreEdits source old new (end_of e.span) es

-- where the new name is put
abbrev pub renamed_offsets : List Edit → List ℕ
renamed_offsets edits = map (λ e. e.span.offset) (filter (λ e. e.renames) edits)

-- where a name is bound and used
abbrev pub offsets : Occurrences → List ℕ
offsets o = o.bound.offset ∷ map (λ s. s.offset) o.used.items

-- edits put the new name at these offsets and nowhere else
abbrev pub AreSound : List ℕ → List ℕ → List ℕ → List ℕ → List Edit → Type 0
AreSound source old new places edits = AreEdits source old new 0 edits × (places ≡ renamed_offsets edits)

-- edits put the new name just where the old one is bound and used
pub record Renames (source new : List ℕ) (o : Occurrences) (edits : List Edit) : Type 0 where
  pub each : AreEdits source (name_in source o.bound) new 0 edits
  pub all : IsPermutation (offsets o) (renamed_offsets edits)

-- a name gets a new one: nothing is to be done where it has that already
abbrev pub IsGiven : List ℕ → List ℕ → Occurrences → List Edit → Type 0
IsGiven source new o edits = ((name_in source o.bound ≡ new) × (edits ≡ [])) ⊎ Renames source new o edits

-- the name that is found at an offset gets a new one
abbrev pub IsGivenAt : List ℕ → ℕ → List ℕ → List Edit → Type 0
IsGivenAt source offset new edits =
    (o : Occurrences) × AreOccurrences source offset o × IsFoundAt source offset (Some o) × IsGiven source new o edits
