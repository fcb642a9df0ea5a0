-- What formatting changes.
use Rattle.std.specs.Prelude.{◌≡◌, ℕ, List, [], ◌⊎◌, Bool, true, false, max, min, if◌then◌else◌}
use Rattle.serde_json.specs.View.{view}
use Rattle.serde_json.specs.declared.value.Value.{Value}
use Rattle.wac_positions.specs.declared.place.ColumnUnit.{ColumnUnit}
use Rattle.wac_comments.specs.Errors.{IsErrorOf}
use Rattle.wac_comments.specs.Tidied.{IsPlain, Kept, SameTree}
use Rattle.wac_comments.specs.declared.error.TidyError.{TidyError}
use Rattle.wac_comments.specs.declared.error.TidyError.TheVariants.{Parse, NestedTooDeep, NotKept, Memory}
use Rattle.wac_comments.specs.declared.options.Indent.{Indent}
use Rattle.wac_comments.specs.declared.options.Indent.TheVariants.{Blanks, Tab}
use Rattle.wac_comments.specs.declared.options.Options.{Options}
use Rattle.wac_lsp_messages.specs.declared.notice.Change.{Change}
use Rattle.wac_lsp_messages.specs.declared.question.FormattingOptions.{FormattingOptions}
use Rattle.wac_lsp_texts.specs.Changed.{Changes}
use Rattle.wac_lsp.specs.Edits.{edits_data}

-- `after` is the tidy form of the text, as `tidy` promises it
pub record IsTidyOf (options : Options) (text after : List ℕ) : Type 0 where
  pub kept : Kept text after
  pub tree : SameTree text after
  pub plain : IsPlain options text after

-- the changes make the tidy form of a text
pub record MakesTidy (unit : ColumnUnit) (options : Options) (text : List ℕ) (changes : List Change) : Type 0 where
  pub after : List ℕ
  pub makes : Changes unit text changes after
  pub tidy : IsTidyOf options text after

-- the changes make a text of which this is the tidy form
abbrev pub MakesTextOf : ColumnUnit → Options → List ℕ → List Change → List ℕ → Type 0
MakesTextOf unit options text changes after =
    (made : List ℕ) × Changes unit text changes made × IsTidyOf options made after

-- the changes make a text that has the same tidy form
pub record KeepsTidy (unit : ColumnUnit) (options : Options) (text : List ℕ) (changes : List Change) : Type 0 where
  pub after : List ℕ
  pub makes : MakesTextOf unit options text changes after
  pub tidy : IsTidyOf options text after

-- whether an error is the text's: it is no document, or its brackets are nested too deep
abbrev pub is_of_text : TidyError → Bool
is_of_text (Parse error) = true
is_of_text (NestedTooDeep span) = true
is_of_text NotKept = false
is_of_text (Memory error) = false

-- the text has no tidy form, and nothing is changed
pub record IsLeft (text : List ℕ) (changes : List Change) : Type 0 where
  pub error : TidyError
  pub told : IsErrorOf text error
  pub of_text : is_of_text error ≡ true
  pub nothing : changes ≡ []

-- what the changes of a layout do to a text
abbrev pub LaysOut : ColumnUnit → Options → List ℕ → List Change → Type 0
LaysOut unit options text changes = MakesTidy unit options text changes ⊎ IsLeft text changes

-- what those of a layout of a part do to it
abbrev pub LaysOutPart : ColumnUnit → Options → List ℕ → List Change → Type 0
LaysOutPart unit options text changes = KeepsTidy unit options text changes ⊎ IsLeft text changes

-- the indent that a client asks for: a tab, or as many blanks as a tab is worth to it, at least 1 and at most 16
abbrev pub indent_asked : FormattingOptions → Indent
indent_asked given = if given.insert_spaces then Blanks (max 1 (min 16 given.tab_size)) else Tab

-- the value has the edits that do so to a text, laid out as it is asked
pub record HasEdits (Does : ColumnUnit → Options → List ℕ → List Change → Type 0) (unit : ColumnUnit)
    (given : FormattingOptions) (text : List ℕ) (value : Value) : Type 0 where
  pub options : Options
  pub indent : options.indent ≡ indent_asked given
  pub changes : List Change
  pub has : view value ≡ edits_data changes
  pub does : Does unit options text changes

-- the value has the edits that lay out a text
abbrev pub IsFormatting : ColumnUnit → FormattingOptions → List ℕ → Value → Type 0
IsFormatting = HasEdits LaysOut

-- the value has edits that lay out a part of it
abbrev pub IsPartFormatting : ColumnUnit → FormattingOptions → List ℕ → Value → Type 0
IsPartFormatting = HasEdits LaysOutPart
