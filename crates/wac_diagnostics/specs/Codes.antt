-- The codes of the lexer's errors: the kebab form of their names.
use Rattle.std.specs.Prelude.{ℕ, List, codes}
use Rattle.wac_lexer.specs.declared.error.Error.{Error}
use Rattle.wac_lexer.specs.declared.error.Error.TheVariants.{UnexpectedToken, UnterminatedString, UnterminatedComment, DisallowedBidirectionalOverride, DiscouragedUnicodeCodepoint, DisallowedControlCode}

abbrev pub lexer_code : Error → List ℕ
lexer_code UnexpectedToken = codes "wac::unexpected-token"
lexer_code UnterminatedString = codes "wac::unterminated-string"
lexer_code UnterminatedComment = codes "wac::unterminated-comment"
lexer_code (DisallowedBidirectionalOverride c) = codes "wac::disallowed-bidirectional-override"
lexer_code (DiscouragedUnicodeCodepoint c) = codes "wac::discouraged-unicode-codepoint"
lexer_code (DisallowedControlCode c) = codes "wac::disallowed-control-code"
