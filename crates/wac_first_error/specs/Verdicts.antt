-- What the first error of bytes says of them.
use Rattle.std.specs.Prelude.{◌≡◌, ℕ, List, ◌⊎◌, Bool, false, IsUtf8}
use Rattle.wac_first_error.specs.Reading.{begins_with_mark, IsNotUtf8, IsMarked}
use Rattle.wac_first_error.specs.Findings.{IsFinding, IsOfText}
use Rattle.wac_first_error.specs.declared.finding.Finding.TheVariants as findings
use Rattle.wac_first_error.specs.declared.first.Verdict.{Verdict}
use Rattle.wac_first_error.specs.declared.first.Verdict.TheVariants.{Document, Unresolved, Rejected}

-- the bytes are a text without a byte order mark
abbrev pub IsPlainText : List ℕ → Type 0
IsPlainText bytes = IsUtf8 bytes × (begins_with_mark bytes ≡ false)

-- the bytes are a document, which was resolved where that was asked for
abbrev pub IsGood : List ℕ → Bool → Type 0
IsGood bytes resolve = IsPlainText bytes × IsFinding bytes resolve findings.Document

-- the bytes are a document that mentions foreign packages, and was to be resolved
abbrev pub IsUnresolved : List ℕ → Bool → Type 0
IsUnresolved bytes resolve = IsPlainText bytes × IsFinding bytes resolve findings.Unresolved

-- what a verdict says of bytes, where a document is to be resolved or not
abbrev pub IsVerdict : List ℕ → Bool → Verdict → Type 0
IsVerdict bytes resolve (Document text) = (text.now ≡ bytes) × IsGood bytes resolve
IsVerdict bytes resolve (Unresolved text) = (text.now ≡ bytes) × IsUnresolved bytes resolve
IsVerdict bytes resolve (Rejected d) = IsNotUtf8 bytes d ⊎ (IsMarked bytes d ⊎ IsOfText bytes resolve d)
