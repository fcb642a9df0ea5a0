-- What is read of a source.
use Rattle.std.specs.Prelude.{◌≡◌, ℕ, ◌≤◌, List, Option, Some, None, string_bytes}
use Rattle.wac_recovery.specs.Attempts.{Attempt, whole}
use Rattle.wac_recovery.specs.Faults.{Wrong}
use Rattle.wac_recovery.specs.Recovered.{Recovers}
use Rattle.wac_names.specs.LookedUp.{AreOfText, HasNoNames}
use Rattle.wac_names.specs.Places.{AreTied}
use Rattle.wac_names.specs.declared.names.Names.{Names}
use Rattle.wac_lsp_names.specs.declared.reading.Left.{Left}
use Rattle.wac_lsp_names.specs.declared.reading.Reading.{Reading}

-- names of a text that begins with so many bytes that the source doesn't have
pub record Read : Type 0 where
  pub names : Names
  pub skip : ℕ

abbrev pub read_of : Reading → Read
read_of r = record { names = r.names; skip = r.skip }

-- this is left of a source of which faulty statements are blanked: all of them, or at least sixteen
pub record IsLeft (source : List ℕ) (left : Attempt) : Type 0 where
  pub limit : ℕ
  pub faults : List Wrong
  pub least : 16 ≤ limit
  pub recovers : Recovers limit (whole source) faults left

abbrev pub attempt_of : Left → Attempt
attempt_of l = record { text = string_bytes l.text; skip = l.skip }

-- what is read of what is left: its names, or nothing, where it has none
abbrev pub AreNamesOf : Attempt → Option Read → Type 0
AreNamesOf left None = HasNoNames left.text
AreNamesOf left (Some r) = AreTied left.text r.names × AreOfText left.text r.names × (r.skip ≡ left.skip)

-- what is read of a source: what is read of what is left of it
pub record IsRead (source : List ℕ) (found : Option Read) : Type 0 where
  pub left : Attempt
  pub is_left : IsLeft source left
  pub named : AreNamesOf left found
