-- What tidying comes to.
use Rattle.std.specs.Prelude.{◌≡◌, ◌⊎◌, ℕ, List, Option, Some, None, codes, string_bytes}
use Rattle.wac_lexer.specs.Span.{Span}
use Rattle.wac_comments_layout.specs.Nesting.{too_deep}
use Rattle.wac_comments.specs.Comments.{comment_texts, doc_texts}
use Rattle.wac_comments.specs.Errors.{IsErrorOf}
use Rattle.wac_comments.specs.Tidied.{IsPlain, Kept, SameTree}
use Rattle.wac_comments.specs.declared.error.TidyError.{TidyError}
use Rattle.wac_comments.specs.declared.options.Indent.TheVariants.{Blanks}
use Rattle.wac_comments.specs.declared.options.LineEnd.TheVariants.{Lf}
use Rattle.wac_comments.specs.declared.options.Options.{Options}
use Rattle.wac_calls.specs.Rejecting.{IsFaultOf}
use Rattle.wac_calls.specs.declared.outcome.Outcome.{Outcome}
use Rattle.wac_calls.specs.declared.outcome.Outcome.TheVariants.{Written, Rejected, NotUtf8, OutOfMemory, NestedTooDeep, BadPackage}

-- four blanks for a level, and LF
abbrev pub layout : Options
layout = record { indent = Blanks 4; line_end = Lf }

-- The text is the same document with the same comments, each before the same printed token, and with the same docs.
-- Without comments it is what the document is formatted to.
pub record IsTidied (source : List ℕ) (text : List ℕ) : Type 0 where
  pub comments : comment_texts text ≡ comment_texts source
  pub kept : Kept source text
  pub tree : SameTree source text
  pub docs : doc_texts text ≡ doc_texts source
  pub plain : IsPlain layout source text

-- the message that comments could not be kept, which has no place
abbrev pub SaysNotKept : Option Span → List ℕ → Type 0
SaysNotKept place message = (place ≡ None) × (message ≡ codes "the comments could not be kept")

abbrev pub IsNotKept : Outcome → Type 0
IsNotKept (Rejected place message) = SaysNotKept place (string_bytes message)
IsNotKept OutOfMemory = Unit {0}
IsNotKept outcome = ⊥

-- tidying writes this of the source, or rejects it so
abbrev pub SaysTidy : List ℕ → Outcome → Type 0
SaysTidy source (Written text) = IsTidied source text.items
SaysTidy source (Rejected place message) =
    IsFaultOf source place (string_bytes message) ⊎ SaysNotKept place (string_bytes message)
SaysTidy source NotUtf8 = ⊥
SaysTidy source OutOfMemory = Unit {0}
SaysTidy source (NestedTooDeep at) = too_deep source ≡ Some at
SaysTidy source (BadPackage at message) = ⊥

-- whatever the source: where tidying fails with this error, this is what it comes to
abbrev pub SaysUntidied : TidyError → Outcome → Type 0
SaysUntidied error outcome = (source : List ℕ) → IsErrorOf source error → SaysTidy source outcome
