-- What `fmt` makes of the bytes of a file.
use Rattle.std.specs.Prelude.{◌≡◌, false, ℕ, List, IsUtf8}
use Rattle.wac_comments.specs.Comments.{comment_texts, doc_texts}
use Rattle.wac_comments.specs.Tidied.{IsPlain, Kept, SameTree}
use Rattle.wac_comments.specs.declared.options.LineEnd.{LineEnd}
use Rattle.wac_comments.specs.declared.options.LineEnd.TheVariants as line_end
use Rattle.wac_comments.specs.declared.options.Options.{Options}
use Rattle.wac_first_error.specs.Reading.{begins_with_mark}
use Rattle.wac_cli.specs.declared.options.FormatOptions.{FormatOptions}
use Rattle.wac_cli.specs.declared.options.LineEnds.{LineEnds}
use Rattle.wac_cli.specs.declared.options.LineEnds.TheVariants.{Auto, Lf, CrLf}

-- Lines end as they are asked to. `Auto` leaves it to the text.
abbrev pub EndsLinesAs : LineEnds → LineEnd → Type 0
EndsLinesAs Auto _ = Unit {0}
EndsLinesAs Lf chosen = chosen ≡ line_end.Lf
EndsLinesAs CrLf chosen = chosen ≡ line_end.CrLf

-- options of tidying that are as `fmt` was asked to format
abbrev pub IsLayoutOf : FormatOptions → Options → Type 0
IsLayoutOf options layout = (layout.indent ≡ options.indent) × EndsLinesAs options.line_ends layout.line_end

-- bytes that are a text, without a byte order mark
abbrev pub IsText : List ℕ → Type 0
IsText bytes = IsUtf8 bytes × (begins_with_mark bytes ≡ false)

-- The text is the same document with the same comments, each before the same printed token, and with the same docs.
-- Without comments it is what the document is formatted to.
pub record IsTidied (layout : Options) (source : List ℕ) (text : List ℕ) : Type 0 where
  pub comments : comment_texts text ≡ comment_texts source
  pub kept : Kept source text
  pub tree : SameTree source text
  pub docs : doc_texts text ≡ doc_texts source
  pub plain : IsPlain layout source text

-- a text that a source is tidied to, as `fmt` was asked to format
abbrev pub IsTidiedAs : FormatOptions → List ℕ → List ℕ → Type 0
IsTidiedAs options source text = (layout : Options) × IsLayoutOf options layout × IsTidied layout source text

-- a text that a file with these bytes may be given
abbrev pub IsTidyOf : FormatOptions → List ℕ → List ℕ → Type 0
IsTidyOf options held text = IsText held × IsTidiedAs options held text
