-- What a call of a printer does.
use Rattle.std.specs.Prelude.{◌≡◌, ℕ, zero, suc, ◌+◌, ◌≤◌, Bool, true, false, ◌&&◌, nat_eq, List, [], ◌∷◌, ◌++◌, length, Result, Ok, Err, Option, Some, None, codes}
use denote.Ref.{Bor}
use Rattle.wac_printer_layout.specs.Printed.{Piece, blank, text, fresh_after}
use Rattle.wac_printer_pieces.specs.declared.error.PrintError.{PrintError}
use Rattle.wac_printer_pieces.specs.declared.error.PrintError.TheVariants.{Writer, Failed}

-- a text so many times, as blanks
abbrev pub spaces : ℕ → List ℕ → List Piece
spaces zero space = []
spaces (suc n) space = spaces n space ++ blank space ∷ []

abbrev pub is_space : ℕ → Bool
is_space b = nat_eq b 32

-- a printer
pub record Printer : Type 0 where
  -- what its sink was given, and how many of the sink's calls have failed
  pub bytes : List ℕ
  pub failures : ℕ
  -- which borrow its sink is, where it is one
  pub borrow : ℕ
  pub source : List ℕ
  pub space : List ℕ
  pub depth : ℕ
  -- nothing is on the line yet
  pub fresh : Bool
  -- a call has reported that the writer failed
  pub failed : Bool

-- the printer into a sink, of which the functions tell what it was given, its failed calls, and which borrow it is
abbrev pub printer : {S : Type 0} → (S → List ℕ) → (S → ℕ) → (S → ℕ) → S → List ℕ → List ℕ → ℕ → Bool → Bool → Printer
printer bytes failures borrow sink source space depth fresh failed =
    record {
      bytes = bytes sink;
      failures = failures sink;
      borrow = borrow sink;
      source = source;
      space = space;
      depth = depth;
      fresh = fresh;
      failed = failed;
    }

-- a new printer: at depth 0, with nothing on the line yet, and nothing has failed
abbrev pub new_printer : {S : Type 0} → (S → List ℕ) → (S → ℕ) → (S → ℕ) → S → List ℕ → List ℕ → Printer
new_printer bytes failures borrow sink source space = printer bytes failures borrow sink source space 0 true false

-- the sink is the one that the printer wrote into: it was given the same, as many calls failed, and it is that borrow
abbrev pub IsSinkOf : {S : Type 0} → (S → List ℕ) → (S → ℕ) → (S → ℕ) → S → Printer → Type 0
IsSinkOf bytes failures borrow sink p =
    (bytes sink ≡ p.bytes) × (failures sink ≡ p.failures) × (borrow sink ≡ p.borrow)

-- what is written once for each depth: four spaces unless another text is given
abbrev pub space_of : Option (Bor (List ℕ)) → List ℕ
space_of None = codes "    "
space_of (Some space) = space.now

-- the printer when these pieces are written
unfoldable pub after : List Piece → Printer → Printer
after ps p = record p { bytes = p.bytes ++ text p.space p.fresh ps; fresh = fresh_after p.fresh (text p.space p.fresh ps) }

-- a text begins with this one, and is longer unless it may be the whole
unfoldable pub is_front : Bool → List ℕ → List ℕ → Bool
is_front whole [] [] = whole
is_front whole [] (y ∷ ys) = true
is_front whole (x ∷ xs) [] = false
is_front whole (x ∷ xs) (y ∷ ys) = nat_eq x y && is_front whole xs ys

abbrev pub has_failed : PrintError → Bool
has_failed Writer = false
has_failed Failed = true

abbrev pub failures_of : PrintError → ℕ
failures_of Writer = 1
failures_of Failed = 0

-- A call that was to write these pieces wrote them, or returned an error: `Failed` exactly where the printer had
-- failed before, when it wrote nothing, and `Writer` exactly where a call of the sink failed, when a prefix
-- of the text was written, and not the whole.
abbrev pub Outcome : {A : Type 0} → Printer → Result A PrintError → Printer → List Piece → Type 0
Outcome old (Ok _) new ps =
    (old.failed ≡ false) × (new ≡ after ps old) × (new.failed ≡ false) × (new.failures ≡ old.failures) × (length old.bytes ≤ length new.bytes)
Outcome old (Err e) new ps =
    (old.failed ≡ has_failed e) × (new.failed ≡ true) × (new.failures ≡ old.failures + failures_of e) × (length old.bytes ≤ length new.bytes)
    × (is_front (has_failed e) new.bytes (after ps old).bytes ≡ true) × (has_failed e ≡ true → new.bytes ≡ old.bytes)

-- What a call leaves as it was, whatever it returned.
abbrev pub Keeps : Printer → Printer → Type 0
Keeps old new = (new.source ≡ old.source) × (new.space ≡ old.space) × (new.depth ≡ old.depth) × (new.borrow ≡ old.borrow)

pub record Prints {A : Type 0} (old : Printer) (result : Result A PrintError) (new : Printer) (ps : List Piece) : Type 0 where
  pub is : Outcome old result new ps
  pub keeps : Keeps old new
