-- A text after the changes of an editor.
use Rattle.std.specs.Prelude.{◌≡◌, ℕ, Bool, max, List, [], ◌∷◌, ◌++◌, take, drop, string_bytes, Option, Some, None}
use Rattle.wac_positions.specs.declared.place.ColumnUnit.{ColumnUnit}
use Rattle.wac_lsp_messages.specs.declared.notice.Range.{Range}
use Rattle.wac_lsp_messages.specs.declared.notice.Change.{Change}
use Rattle.wac_positions.specs.Lines.{begins_with_line_feed}
use Rattle.wac_lsp_texts.specs.Clamped.{IsClamped}
use Rattle.wac_lsp_texts.specs.Started.{Starts}

-- the text with what is between two offsets replaced; nothing is, and the new text comes after the first, where they are
-- in the other order
abbrev pub spliced : List ℕ → ℕ → ℕ → List ℕ → List ℕ
spliced text from to new = take from text ++ (new ++ drop (max from to) text)

-- what a range of a text that is replaced leaves: all is, where there is no range
abbrev pub Replaces : ColumnUnit → List ℕ → Option Range → List ℕ → List ℕ → Type 0
Replaces unit text None new after = after ≡ new
Replaces unit text (Some range) new after =
    (from : ℕ) × (to : ℕ) × IsClamped text unit range.start from × IsClamped text unit range.end to
    × (after ≡ spliced text from to new)

-- the same of a range
abbrev pub Edits : ColumnUnit → List ℕ → Range → List ℕ → List ℕ → Type 0
Edits unit text range new after = Replaces unit text (Some range) new after

-- a line begins here after a replacement from an offset on, if another began there before, and before an LF or not
abbrev pub StartsAfterSplice : ℕ → ℕ → ℕ → Bool → List ℕ → ℕ → ℕ → Type 0
StartsAfterSplice line offset from feeds after line_after offset_after =
    (text new : List ℕ) (to : ℕ) → Starts text line offset → feeds ≡ begins_with_line_feed (drop offset text)
    → after ≡ spliced text from to new → Starts after line_after offset_after

-- what a change leaves of a text
abbrev pub ChangesOnce : ColumnUnit → List ℕ → Change → List ℕ → Type 0
ChangesOnce unit text change after = Replaces unit text change.range (string_bytes change.text) after

-- what changes leave of a text, one after another
abbrev pub Changes : ColumnUnit → List ℕ → List Change → List ℕ → Type 0
Changes unit text [] after = after ≡ text
Changes unit text (change ∷ changes) after =
    (next : List ℕ) × ChangesOnce unit text change next × Changes unit next changes after
