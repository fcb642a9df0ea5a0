-- The layout of a text by changes.
use Rattle.std.proofs.Common.{◌≡◌, ℕ, List, [], true, inl, inr}
use Rattle.wac_positions.specs.declared.place.ColumnUnit.{ColumnUnit}
use Rattle.wac_comments.specs.Errors.{IsErrorOf}
use Rattle.wac_comments.specs.Tidied.{IsPlain, Kept, SameTree}
use Rattle.wac_comments.specs.declared.error.TidyError.{TidyError}
use Rattle.wac_comments.specs.declared.options.Options.{Options}
use Rattle.wac_lsp_messages.specs.declared.notice.Change.{Change}
use Rattle.wac_lsp_texts.specs.Changed.{Changes}
use Rattle.wac_lsp.specs.Formatting.{IsTidyOf, LaysOut, LaysOutPart, MakesTextOf, is_of_text}

-- what `tidy` made of a text is its tidy form
pub is_tidy : (options : Options) (text after : List ℕ) → Kept text after → SameTree text after → IsPlain options text after → IsTidyOf options text after
is_tidy options text after kept tree plain = record { kept = kept; tree = tree; plain = plain }

-- the changes make the tidy form
pub laid_out : (unit : ColumnUnit) (options : Options) (text : List ℕ) (changes : List Change) (after : List ℕ) → Changes unit text changes after → Kept text after → SameTree text after → IsPlain options text after → LaysOut unit options text changes
laid_out unit options text changes after makes kept tree plain =
    inl (record { after = after; makes = makes; tidy = is_tidy options text after kept tree plain })

-- the changes make a text that has the same tidy form
pub part_laid_out : (unit : ColumnUnit) (options : Options) (text : List ℕ) (changes : List Change) (after : List ℕ) → MakesTextOf unit options text changes after → Kept text after → SameTree text after → IsPlain options text after → LaysOutPart unit options text changes
part_laid_out unit options text changes after makes kept tree plain =
    inl (record { after = after; makes = makes; tidy = is_tidy options text after kept tree plain })

-- the text has none
pub is_left : (unit : ColumnUnit) (options : Options) (text : List ℕ) (changes : List Change) (error : TidyError) → IsErrorOf text error → is_of_text error ≡ true → changes ≡ [] → LaysOut unit options text changes
is_left unit options text changes error told of_text nothing =
    inr (record { error = error; told = told; of_text = of_text; nothing = nothing })

pub part_is_left : (unit : ColumnUnit) (options : Options) (text : List ℕ) (changes : List Change) (error : TidyError) → IsErrorOf text error → is_of_text error ≡ true → changes ≡ [] → LaysOutPart unit options text changes
part_is_left unit options text changes error told of_text nothing =
    inr (record { error = error; told = told; of_text = of_text; nothing = nothing })
