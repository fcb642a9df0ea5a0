use Rattle.wac_lexer.proofs.Common.{◌≡◌, ◌&&◌, drop, list_all}
use Rattle.wac_lexer.specs.Characters.{is_plain}
use Rattle.wac_lexer.proofs.characters.are_plain.Given as goal

abbrev pub invariant-loop-byte : goal.invariant-loop-byte
invariant-loop-byte l = (l.all && list_all is_plain (drop l.byte-index l.bytes)) ≡ list_all is_plain l.bytes
