use Rattle.std.proofs.Common.{◌≡◌, ◌++◌, string_bytes}
use Rattle.std.specs.Str.{IsUtf8}
use Rattle.std.specs.Str.Iter.{chars_rest}
use Rattle.wac_excerpts.specs.Characters.{caret_text}
use Rattle.wac_excerpts.proofs.characters.push_carets.Given as goal

abbrev pub invariant-loop-c : goal.invariant-loop-c
invariant-loop-c l = record {
  utf8 : IsUtf8 (chars_rest l.c-iterator);
  left : string_bytes l.out ++ caret_text (chars_rest l.c-iterator) ≡ string_bytes l.initial.out ++ caret_text l.text;
}
