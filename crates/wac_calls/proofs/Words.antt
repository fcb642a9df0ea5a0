-- What words come to for bytes that are no text, and numbers that no word has.
use Rattle.std.proofs.Common.{◌≡◌, refl, ℕ, List, inl}
use Rattle.std.specs.Prelude.{◌≢◌, IsUtf8}
use Rattle.wac_tool.specs.declared.command.Command.TheVariants.{Tokens, Fmt, Json, Resolve, Packages, Check}
use Rattle.wac_calls.specs.Calls.{Says}
use Rattle.wac_calls.specs.Numbers.{word_number}
use Rattle.wac_calls.specs.declared.outcome.Outcome.TheVariants.{NotUtf8}
use Rattle.wac_calls.specs.declared.word.Word.{Word}
use Rattle.wac_calls.specs.declared.word.Word.TheVariants.{Wac, Tidy, Errors}

-- each word but that for the first error says that they are no text
pub no_text : (word : Word) (bytes : List ℕ) → ¬ (IsUtf8 bytes) → word ≢ Errors → Says word bytes NotUtf8
no_text (Wac command) bytes none other = inl (none, refl)
no_text Tidy bytes none other = inl (none, refl)
no_text Errors bytes none other = absurd (other refl)

-- a number that is none of the eight is that of no word
pub no_word : (n : ℕ) → n ≢ 0 → n ≢ 1 → n ≢ 2 → n ≢ 3 → n ≢ 4 → n ≢ 5 → n ≢ 6 → n ≢ 7 → (word : Word) → n ≢ word_number word
no_word n a b c d e f g h (Wac Tokens) = a
no_word n a b c d e f g h (Wac Fmt) = b
no_word n a b c d e f g h (Wac Json) = c
no_word n a b c d e f g h (Wac Resolve) = d
no_word n a b c d e f g h (Wac Packages) = e
no_word n a b c d e f g h (Wac Check) = f
no_word n a b c d e f g h Tidy = g
no_word n a b c d e f g h Errors = h
