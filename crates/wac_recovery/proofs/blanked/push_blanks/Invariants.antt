use Rattle.std.proofs.Common.{◌≡◌, ◌++◌, take}
use Rattle.std.specs.Prelude.{map, string_bytes}
use Rattle.wac_recovery.specs.Blanked.{blank}
use Rattle.wac_recovery.proofs.blanked.push_blanks.Given as goal

abbrev pub invariant-loop-byte : goal.invariant-loop-byte
invariant-loop-byte l = string_bytes l.found ≡ string_bytes l.initial.found ++ map blank (take l.byte-index l.byte-items)
