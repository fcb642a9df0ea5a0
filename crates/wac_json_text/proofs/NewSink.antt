-- What writing a value into a new sink gives.
use Rattle.wac_json_text.proofs.Common.{◌≡◌, ℕ, true, false, List, ◌++◌, Result, Ok, Err, OnOk, OnErr, sym, ap, ◌∙◌, subst, Data, compact_text, Printer, Prints, PrintError}
use Rattle.wac_json_text.specs.Pieces.{pieces, IsBegun}
use Rattle.wac_json_text.proofs.Texts.{begun, wrote_text}

-- pieces that were just made
abbrev new_pieces : List ℕ → ℕ → ℕ → List ℕ → List ℕ → Printer
new_pieces bytes failures borrow source space = record { bytes = bytes; failures = failures; borrow = borrow; source = source; space = space; depth = 0; fresh = true; failed = false }

pub wrote_at : {A : Type 0} (old new : Printer) (r : Result A PrintError) (d : Data) (bytes : List ℕ) (failures borrow : ℕ) (source space out : List ℕ) → old ≡ new_pieces bytes failures borrow source space
    → Prints old r new (pieces d) → out ≡ new.bytes → OnOk r (out ≡ bytes ++ compact_text d)
wrote_at old new (Ok x) d bytes failures borrow source space out made h same = same ∙ wrote_text old new d h.is.1 ∙ ap (λ (p : Printer). p.bytes ++ compact_text d) made
wrote_at old new (Err e) d bytes failures borrow source space out made h same = tt

pub begun_at : {A : Type 0} (old new : Printer) (r : Result A PrintError) (d : Data) (bytes : List ℕ) (failures borrow : ℕ) (source space out : List ℕ) → old ≡ new_pieces bytes failures borrow source space
    → Prints old r new (pieces d) → out ≡ new.bytes → OnErr r (IsBegun bytes out (compact_text d))
begun_at old new r d bytes failures borrow source space out made h same =
    subst (λ o. OnErr r (IsBegun bytes o (compact_text d))) (sym same)
    (subst (λ b. OnErr r (IsBegun b new.bytes (compact_text d))) (ap (λ (p : Printer). p.bytes) made) (begun old new r d (ap (λ (p : Printer). p.failed) made) h))
