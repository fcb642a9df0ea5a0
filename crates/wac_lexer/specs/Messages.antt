-- What messages call the tokens, and what they say of the faults.
use Rattle.std.specs.Prelude.{◌≡◌, refl, ℕ, List, ◌++◌, codes, false}
use Prim.Native.String.{String}
use Rattle.std.specs.Fmt.{digits}
use Rattle.wac_lexer.specs.declared.token.Token.{Token}
use Rattle.wac_lexer.specs.declared.token.Token.TheVariants as tokens
use Rattle.wac_lexer.specs.declared.error.Error.{Error}
use Rattle.wac_lexer.specs.declared.error.Error.TheVariants as errors

-- what a message calls a token
abbrev pub name_of : Token → List ℕ
name_of tokens.Comment = codes "comment"
name_of tokens.BlockComment = codes "comment"
name_of tokens.Ident = codes "identifier"
name_of tokens.String = codes "string literal"
name_of tokens.PackageName = codes "package name"
name_of tokens.PackagePath = codes "package path"
name_of tokens.ImportKeyword = codes "`import` keyword"
name_of tokens.WithKeyword = codes "`with` keyword"
name_of tokens.TypeKeyword = codes "`type` keyword"
name_of tokens.TupleKeyword = codes "`tuple` keyword"
name_of tokens.ListKeyword = codes "`list` keyword"
name_of tokens.OptionKeyword = codes "`option` keyword"
name_of tokens.ResultKeyword = codes "`result` keyword"
name_of tokens.BorrowKeyword = codes "`borrow` keyword"
name_of tokens.ResourceKeyword = codes "`resource` keyword"
name_of tokens.VariantKeyword = codes "`variant` keyword"
name_of tokens.RecordKeyword = codes "`record` keyword"
name_of tokens.FlagsKeyword = codes "`flags` keyword"
name_of tokens.EnumKeyword = codes "`enum` keyword"
name_of tokens.FuncKeyword = codes "`func` keyword"
name_of tokens.StaticKeyword = codes "`static` keyword"
name_of tokens.ConstructorKeyword = codes "`constructor` keyword"
name_of tokens.U8Keyword = codes "`u8` keyword"
name_of tokens.S8Keyword = codes "`s8` keyword"
name_of tokens.U16Keyword = codes "`u16` keyword"
name_of tokens.S16Keyword = codes "`s16` keyword"
name_of tokens.U32Keyword = codes "`u32` keyword"
name_of tokens.S32Keyword = codes "`s32` keyword"
name_of tokens.U64Keyword = codes "`u64` keyword"
name_of tokens.S64Keyword = codes "`s64` keyword"
name_of tokens.F32Keyword = codes "`f32` keyword"
name_of tokens.F64Keyword = codes "`f64` keyword"
name_of tokens.CharKeyword = codes "`char` keyword"
name_of tokens.BoolKeyword = codes "`bool` keyword"
name_of tokens.StringKeyword = codes "`string` keyword"
name_of tokens.InterfaceKeyword = codes "`interface` keyword"
name_of tokens.WorldKeyword = codes "`world` keyword"
name_of tokens.ExportKeyword = codes "`export` keyword"
name_of tokens.NewKeyword = codes "`new` keyword"
name_of tokens.LetKeyword = codes "`let` keyword"
name_of tokens.UseKeyword = codes "`use` keyword"
name_of tokens.IncludeKeyword = codes "`include` keyword"
name_of tokens.AsKeyword = codes "`as` keyword"
name_of tokens.PackageKeyword = codes "`package` keyword"
name_of tokens.TargetsKeyword = codes "`targets` keyword"
name_of tokens.AsyncKeyword = codes "`async` keyword"
name_of tokens.StreamKeyword = codes "`stream` keyword"
name_of tokens.FutureKeyword = codes "`future` keyword"
name_of tokens.ErrorContextKeyword = codes "`error-context` keyword"
name_of tokens.Semicolon = codes "`;`"
name_of tokens.OpenBrace = codes "`{`"
name_of tokens.CloseBrace = codes "`}`"
name_of tokens.Colon = codes "`:`"
name_of tokens.Equals = codes "`=`"
name_of tokens.OpenParen = codes "`(`"
name_of tokens.CloseParen = codes "`)`"
name_of tokens.Arrow = codes "`->`"
name_of tokens.OpenAngle = codes "`<`"
name_of tokens.CloseAngle = codes "`>`"
name_of tokens.Underscore = codes "`_`"
name_of tokens.OpenBracket = codes "`[`"
name_of tokens.CloseBracket = codes "`]`"
name_of tokens.Dot = codes "`.`"
name_of tokens.Ellipsis = codes "`...`"
name_of tokens.Comma = codes "`,`"
name_of tokens.Slash = codes "`/`"
name_of tokens.At = codes "`@`"

-- a text with the character's code in it, in lower case hexadecimal
abbrev pub with_code : String → ℕ → String → List ℕ
with_code before c after = codes before ++ (digits 16 false c ++ codes after)

-- what a message says of a fault
abbrev pub text_of : Error → List ℕ
text_of errors.UnexpectedToken = codes "unexpected token was encountered"
text_of errors.UnterminatedString = codes "an unterminated string was encountered"
text_of errors.UnterminatedComment = codes "an unterminated comment was encountered"
text_of (errors.DisallowedBidirectionalOverride c) = with_code "disallowed bidirectional override codepoint `\\u{" c "}`"
text_of (errors.DiscouragedUnicodeCodepoint c) = with_code "codepoint `\\u{" c "}` is discouraged by Unicode"
text_of (errors.DisallowedControlCode c) = with_code "disallowed control code '\\u{" c "}'"

-- an example
control_code : text_of (errors.DisallowedControlCode 12) ≡ codes "disallowed control code '\\u{c}'"
unfolding digits
control_code = refl
