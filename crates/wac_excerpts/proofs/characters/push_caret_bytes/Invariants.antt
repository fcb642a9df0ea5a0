use Rattle.std.proofs.Common.{◌≡◌, ◌++◌, string_bytes, take}
use Rattle.std.specs.Prelude.{flat_map}
use Rattle.wac_excerpts.specs.Characters.{caret_byte}
use Rattle.wac_excerpts.proofs.characters.push_caret_bytes.Given as goal

abbrev pub invariant-loop-byte : goal.invariant-loop-byte
invariant-loop-byte l = string_bytes l.out ≡ string_bytes l.initial.out ++ flat_map caret_byte (take l.byte-index l.bytes)
